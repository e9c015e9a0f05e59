-- The form of a vector's line, part by part. Assumes nothing.
use Rattle.std.proofs.Common.{◌≡◌, ℕ, true, false, List, length, get_or, take, drop, ⊎_elim}
use Rattle.std.proofs.lemmas.Bool.{and_parts, and_from, cases_Bool, eq-eqb, eqb-true}
use Rattle.octets.specs.Hex.{Digits}
use Rattle.check_aes.specs.Vector.{is_vector}

pub record Form (t : List ℕ) : Type 0 where
  pub long : length t ≡ 70
  pub first : get_or t 4 0 ≡ 32
  pub second : get_or t 37 0 ≡ 32
  pub count : Digits (take 4 t)
  pub key : Digits (take 32 (drop 5 t))
  pub block : Digits (take 32 (drop 38 t))

form : (t : List ℕ) → is_vector t ≡ true → Form t
unfolding is_vector
form t h =
    let p = and_parts _ _ h in
    let q = and_parts _ _ p.0 in
    let r = and_parts _ _ q.0 in
    let s = and_parts _ _ r.0 in
    let u = and_parts _ _ s.0 in
    record {
      long = eqb-true _ _ u.0;
      first = eqb-true _ _ u.1;
      second = eqb-true _ _ s.1;
      count = r.1;
      key = q.1;
      block = p.1;
    }

pub inside : (t : List ℕ) → Form t → is_vector t ≡ true
unfolding is_vector
inside t f =
    and_from _ _
    (and_from _ _
    (and_from _ _
    (and_from _ _ (and_from _ _ (eq-eqb _ _ f.long) (eq-eqb _ _ f.first)) (eq-eqb _ _ f.second)) f.count) f.key) f.block

pub outside : (t : List ℕ) → (Form t → ⊥) → is_vector t ≡ false
outside t no-form = ⊎_elim (λ yes-vector. absurd (no-form (form t yes-vector))) (λ out. out) (cases_Bool (is_vector t))
