-- HMAC-SHA-256 (RFC 2104 with the hash of FIPS 180-4), on lists of bytes.
use Rattle.std.specs.Prelude.{ℕ, ◌-◌, nat_lt, if◌then◌else◌, List, ◌++◌, length, map, replicate, bit_xor}
use Rattle.sha2.specs.Sha256.{sha256}

-- the key as one block of the hash, of 64 bytes: a longer key is hashed first, and zeros fill the block
abbrev pub block_of : List ℕ → List ℕ
block_of key =
    let short = if nat_lt 64 (length key) then sha256 key else key in
    short ++ replicate (64 - length short) 0

-- the block, with the bits of the mask flipped in each byte
abbrev pub masked : ℕ → List ℕ → List ℕ
masked mask block = map (λ b. bit_xor b mask) block

-- the inner pad is 0x36, the outer one 0x5c
abbrev pub hmac_by : List ℕ → List ℕ → List ℕ
hmac_by block message = sha256 (masked 92 block ++ sha256 (masked 54 block ++ message))

abbrev pub hmac : List ℕ → List ℕ → List ℕ
hmac key message = hmac_by (block_of key) message
