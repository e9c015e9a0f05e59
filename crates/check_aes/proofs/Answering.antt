-- From what a line says to its row. Assumes nothing.
use Rattle.std.proofs.Common.{◌≡◌, ℕ, List, [], ◌∷◌, ◌++◌, Some, sym, ap, ◌∙◌, ap₂}
use Rattle.std.proofs.lemmas.Bool.{cond-true}
use Rattle.octets.specs.Hex.{hex}
use Rattle.check_aes.specs.Answer.{through, row}
use Rattle.check_aes.specs.Repeated.{repeated}
use Rattle.check_aes.specs.Vector.{Reads, key_of}
use Rattle.check_aes.specs.declared.vector.Vector.{Vector}

module _ (line held : List ℕ) (v : Vector) (told : Reads line (Some v)) (keyed : held ≡ v.key) where
  sent : (map : List ℕ → List ℕ → List ℕ) → repeated (map held) v.count v.block ≡ through map line
  sent map =
      ap (λ k. repeated (map k) v.count v.block) (keyed ∙ told.2)
      ∙ ap₂ (λ n b. repeated (map (key_of line)) n b) told.1 told.3

  pub answered : (enc dec : List ℕ → List ℕ → List ℕ) (e d : List ℕ) → e ≡ hex (repeated (enc held) v.count v.block) → d ≡ hex (repeated (dec held) v.count v.block) → e ++ (9 ∷ (d ++ (10 ∷ []))) ≡ row enc dec line
  answered enc dec e d first second =
      ap₂ (λ x y. x ++ (9 ∷ (y ++ (10 ∷ [])))) (first ∙ ap hex (sent enc)) (second ∙ ap hex (sent dec))
      ∙ sym (cond-true _ _ _ told.0)
