-- Key files that were decoded, and those that were not. Assumes nothing.
use Rattle.std.proofs.Common.{◌≡◌, ℕ, ◌*◌, true, false, eqb, List, length, Option, Some, None, sym, ap, ◌∙◌, subst, ⊎_elim}
use Rattle.std.proofs.lemmas.Bool.{and_parts, and_from, cases_Bool, eq-eqb, eqb-true}
use Rattle.std.specs.Option.{ok_or}
use Rattle.octets.specs.Bytes.{Bytes}
use Rattle.octets.specs.Hex.{Digits, Decoded, hex, unhex}
use Rattle.octets.proofs.Digits.{length-hex, hex_is_digits, hex_undone}
use Rattle.commands.specs.KeyFile.{unended, is_key_file, key_in, ReadsKey}
use Rattle.commands.specs.declared.key_file.KeyFileFault.{KeyFileFault}

module _ (t : List ℕ) where
  pub decoded : (key : List ℕ) → Bytes 16 key → hex key ≡ unended t → (is_key_file t ≡ true) × (key ≡ key_in t)
  unfolding is_key_file key_in
  decoded key bytes is = (
    and_from _ _ (eq-eqb _ _ (sym (ap length is) ∙ length-hex key ∙ ap (λ n. 2 * n) bytes.long)) (subst Digits is (hex_is_digits key bytes.small)),
    sym (hex_undone key bytes.small) ∙ ap unhex is,
  )

  pub not_decoded : (length (unended t) ≡ 32 → Digits (unended t) → ⊥) → is_key_file t ≡ false
  unfolding is_key_file
  not_decoded outside =
      ⊎_elim (λ yes'. let p = and_parts (eqb (length (unended t)) 32) _ yes' in absurd (outside (eqb-true _ _ p.0) p.1)) (λ no'. no') (cases_Bool _)

-- what was decoded, or not, as an answer
pub reads : (t u : List ℕ) (found : Option (List ℕ)) (fault : KeyFileFault) → u ≡ unended t → Decoded 16 u found → ReadsKey t (ok_or found fault)
reads t u (Some key) fault is told = decoded t key told.0 (told.1 ∙ is)
reads t u None fault is told = not_decoded t (subst (λ x. length x ≡ 32 → Digits x → ⊥) is told)
