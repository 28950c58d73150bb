-- What follows of steps of reading that did not fail, and what they took from the bytes. Nothing here has to
-- be believed: each line is proved.
use Rattle.std.proofs.Common.{◌≡◌, ℕ, suc, Bool, true, false, cond, List, [], ◌∷◌, ◌++◌, Result, Ok, Err, refl, sym, ap, subst, ◌∙◌, append_assoc, inl, inr, ◌⊎◌}
use Rattle.lock_messages.specs.Fields.{◌>>=◌, AreBytes}

pub bind_ok : {A B F : Type 0} (r : Result A F) (f : A → Result B F) (y : B) → (r >>= f) ≡ Ok y → (x : A) × (r ≡ Ok x) × (f x ≡ Ok y)
bind_ok (Ok x) f y e = (x, refl, e)
bind_ok (Err d) f y e = absurd cc

pub bind_again : {A B F : Type 0} (r : Result A F) (f : A → Result B F) (x : A) → r ≡ Ok x → (r >>= f) ≡ f x
bind_again r f x e = ap (λ q. q >>= f) e

pub passed : {A F : Type 0} (b : Bool) (d : F) (x y : A) → cond b (Ok x) (Err d) ≡ Ok y → (b ≡ true) × (x ≡ y)
passed true d x y e = (refl, cc)
passed false d x y e = absurd cc

pub not_stopped : {A F : Type 0} (b : Bool) (d : F) (r : Result A F) (y : A) → cond b (Err d) r ≡ Ok y → (b ≡ false) × (r ≡ Ok y)
not_stopped true d r y e = absurd cc
not_stopped false d r y e = (refl, e)

pub went_on : {A F : Type 0} (b : Bool) (d : F) (r : Result A F) (y : A) → cond b r (Err d) ≡ Ok y → (b ≡ true) × (r ≡ Ok y)
went_on true d r y e = (refl, e)
went_on false d r y e = absurd cc

pub chosen : {A : Type 0} (b : Bool) (x y z : A) → cond b x y ≡ z → ((b ≡ true) × (x ≡ z)) ⊎ ((b ≡ false) × (y ≡ z))
chosen true x y z e = inl (refl, e)
chosen false x y z e = inr (refl, e)

abbrev pub done : {A : Type 0} (F : Type 0) → A → Result A F
done F x = Ok x

pub ok_is : {A F : Type 0} (x y : A) → done F x ≡ done F y → x ≡ y
ok_is x y e = cc

pub behind : (text rest : List ℕ) → AreBytes (text ++ rest) → AreBytes rest
behind [] rest h = h
behind (b ∷ text) rest h = behind text rest (λ i. h (suc i))

-- what a reader took from the front
pub record Takes (bytes text rest : List ℕ) : Type 0 where
  pub parts : bytes ≡ text ++ rest
  pub rest_fits : AreBytes rest

pub takes : (bytes text rest : List ℕ) → AreBytes bytes → bytes ≡ text ++ rest → Takes bytes text rest
takes bytes text rest fits e = record { parts = e; rest_fits = behind text rest (subst AreBytes e fits) }

pub Takes-then : (a x b y c : List ℕ) → Takes a x b → Takes b y c → Takes a (x ++ y) c
Takes-then a x b y c p q = record { parts = p.parts ∙ ap (λ (t : List ℕ). x ++ t) q.parts ∙ sym (append_assoc x y c); rest_fits = q.rest_fits }
