-- A sealing that has come to its end: what stands in the output, and that no other dataset is sealed to it. Assumes nothing.
use Rattle.std.proofs.Common.{◌≡◌, ℕ, ◌+◌, ◌*◌, ◌/◌, ◌≤◌, cond, leb, List, ◌++◌, length, take, drop, Some, None, Ok, sym, ap, ◌∙◌, subst, ⊎_elim, arith, take-append-drop}
use Rattle.std.proofs.lemmas.List.{length-take-le}
use Rattle.std.proofs.lemmas.Slice.{drop-append-drop}
use Rattle.std.proofs.lemmas.Bool.{cond-true, cond-false, cases_lt, le-leb, lt-leb}
use Rattle.octets.specs.Bytes.{Small, ◌⊕◌}
use Rattle.octets.specs.Output.{WritesSuch}
use Rattle.cipher.specs.Keyed.{Laws}
use Rattle.sealing.specs.Padding.{padded}
use Rattle.sealing.specs.Seal.{Sealed, Distinct, limit, sealed_length, seal_refused}
use Rattle.sealing.proofs.Chaining.{Chain, chain_all}
use Rattle.sealing.proofs.Recovering.{distinct}

-- a length that was counted is within the limit
pub within_limit : (n count : ℕ) → Some count ≡ cond (leb n limit) (Some (sealed_length n)) None → (n ≤ limit) × (count ≡ sealed_length n)
within_limit n count e =
    ⊎_elim
    (λ over. let z : ◌≡◌ {A = ℕ} 0 1 = let none = e ∙ cond-false _ _ _ (lt-leb n limit over) in cc in absurd (omega arith))
    (λ le. (le, let some = e ∙ cond-true _ _ _ (le-leb n limit le) in cc))
    (cases_lt limit n)

-- `before` is the output as it was given, and `begun` as it was with the first block in it
module _ (E : List ℕ → List ℕ → List ℕ) (key lead start dataset before begun : List ℕ) (f : List ℕ → List ℕ) (head : List ℕ) (n : ℕ) (last out : List ℕ) (chain : Chain f (padded dataset) head begun n last out) (keyed : f ≡ E key) (headed : head ≡ E key (lead ⊕ start)) (all : n ≡ length dataset / 16 + 1) (within : length dataset ≤ limit) (count : ℕ) (counted : count ≡ sealed_length (length dataset)) (room : count ≤ length before) (long : length out ≡ length before) (given : Small dataset) (made : Small out) where
  blocks_count : 16 * (length dataset / 16 + 1) + 16 ≡ count
  blocks_count = omega arith

  whole : Chain (E key) (padded dataset) (E key (lead ⊕ start)) begun (length dataset / 16 + 1) last out
  whole =
      subst (λ m. Chain (E key) (padded dataset) (E key (lead ⊕ start)) begun m last out) all
      (subst (λ h. Chain (E key) (padded dataset) h begun n last out) headed (subst (λ q. Chain q (padded dataset) head begun n last out) keyed chain))

  sealed : Sealed E key lead start dataset (take count out)
  sealed =
      subst (λ m. Sealed E key lead start dataset (take m out)) blocks_count
      (chain_all E key lead start dataset begun last out (length dataset / 16 + 1) (omega arith) (omega arith) whole given made within)

  accepted : seal_refused (length dataset) (length before) ≡ None
  accepted =
      cond-true _ _ _ (le-leb (length dataset) limit within) ∙ cond-true _ _ _ (le-leb (sealed_length (length dataset)) (length before) (omega arith))

  pub made_written : begun ≡ head ++ drop 16 before → length head ≡ 16 → WritesSuch (seal_refused (length dataset) (length before)) (Sealed E key lead start dataset) (Ok count) before out
  made_written first sixteen =
      let as_long : length (take count out) ≡ count = length-take-le count out (omega arith) in
      let behind = subst (λ m. drop m out ≡ drop m begun) blocks_count whole.behind ∙ ap (drop count) first ∙ drop-append-drop 16 before head count (omega arith) sixteen in
      subst (λ m. WritesSuch m (Sealed E key lead start dataset) (Ok count) before out) (sym accepted)
      (take count out, (sealed, (ap Ok (sym as_long), sym (take-append-drop count out) ∙ ap (λ l. take count out ++ l) behind ∙ ap (λ m. take count out ++ drop m before) (sym as_long))))

  pub made_distinct : (D : List ℕ → List ℕ → List ℕ) → Laws E D key → Distinct E key dataset (take count out)
  made_distinct D law other lead' start' t = distinct E D key law dataset lead start other lead' start' (take count out) sealed t
