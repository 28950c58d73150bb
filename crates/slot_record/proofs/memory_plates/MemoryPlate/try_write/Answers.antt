use Rattle.std.proofs.Common.{◌≡◌, ◌∷◌, List, ℕ, length, drop, map, take, ◌++◌, ap, arith, rules}
use Rattle.std.proofs.lemmas.List.{take_at}
use Rattle.slot_record.specs.MemoryPlates.{Written, call_of, put}
use Rattle.slot_record.specs.MemoryLaws.{length_of_put}
use Rattle.slot_record.specs.PutLaws.{memory_written}
use Rattle.slot_record.proofs.memory_plates.MemoryPlate.try_write.Goals as goal

pub invariant_of-self-2 : goal.invariant_of-self-2
invariant_of-self-2 c =
    let m = c.self.inside in
    let is : c.overwrite.new.bytes ≡ put c.args.at c.args.bytes.now m.bytes.items = search rules in
    let later : map call_of c.push_front-2.new.self ≡ Written c.args.at c.args.bytes.now ∷ map call_of m.made = search rules in
    let size : length c.overwrite.new.bytes ≡ m.bytes.len = omega (arith, ap (λ (l : List ℕ). length l) is, length_of_put c.args.at c.args.bytes.now m.bytes.items, m.bytes.ok.0) in
    let back : take m.bytes.len (c.overwrite.new.bytes ++ drop (length c.overwrite.new.bytes) m.bytes.items) ≡ c.overwrite.new.bytes = take_at c.overwrite.new.bytes (drop (length c.overwrite.new.bytes) m.bytes.items) m.bytes.len size in
    rw back (memory_written c.args.at c.args.bytes.now m.bytes.items c.overwrite.new.bytes m.opening.items (map call_of m.made) (map call_of c.push_front-2.new.self) c.self.invariant (search rules) is later)
