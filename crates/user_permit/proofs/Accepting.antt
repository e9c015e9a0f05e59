-- What a caller knows of a text that was made or checked. Assumes nothing.
use Rattle.std.proofs.Common.{◌≡◌, ℕ, true, List, ◌++◌, length, Ok, Err, ap, ◌∙◌, subst, ⊎_elim, append-nil, arith}
use Rattle.std.proofs.lemmas.List.{drop_all}
use Rattle.std.proofs.lemmas.Bool.{cases_Bool, cond-true, cond-false, both_ways}
use Rattle.octets.specs.Output.{Writes}
use Rattle.fields.specs.ManufacturerId.{is_manufacturer_id}
use Rattle.user_permit.specs.Check.{Checked}
use Rattle.user_permit.specs.Lawful.{Lawful, permit_text}
use Rattle.user_permit.specs.Make.{making}
use Rattle.user_permit.specs.declared.check.CheckRefusal.{CheckRefusal}
use Rattle.user_permit.specs.declared.check.CheckRefusal.TheVariants.{Length, Character, Checksum}
use Rattle.user_permit.specs.declared.make.MakeRefusal.{MakeRefusal}

-- a lawful text is refused by no test
pub not_refused : (t : List ℕ) (e : CheckRefusal) → Lawful t → Checked t (Err e) → ⊥
not_refused t Length h refused = refused h.0
not_refused t Character h refused = both_ways _ refused.1 h.1
not_refused t Checksum h refused = refused.2 h.2

-- an output of 46 places holds the text and nothing else
module _ (E : List ℕ → List ℕ → List ℕ) (id key hardware before after : List ℕ) (n : ℕ) (room : length before ≡ 46) (all : n ≡ 46) where
  text : List ℕ
  text = permit_text (E key hardware) id

  whole : Writes {E = MakeRefusal} (Ok text) (Ok n) before after → after ≡ text
  whole w =
      let long : n ≡ length text = cc w.0 in
      w.1 ∙ ap (λ l. text ++ l) (drop_all (length text) before (omega arith)) ∙ append-nil text

  pub only_text : Writes (making E id key hardware 46) (Ok n) before after → (is_manufacturer_id id ≡ true) × (after ≡ permit_text (E key hardware) id)
  unfolding text
  only_text w =
      ⊎_elim
      (λ rule. (rule, whole (subst (λ m. Writes {E = MakeRefusal} m (Ok n) before after) (cond-true _ _ _ rule) w)))
      (λ broken.
      let refused = subst (λ m. Writes {E = MakeRefusal} m (Ok n) before after) (cond-false _ _ _ broken) w in
      let never : ◌≡◌ {A = ℕ} 0 1 = cc refused.0 in
      absurd (omega arith))
      (cases_Bool (is_manufacturer_id id))
