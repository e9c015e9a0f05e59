-- Outputs with and without room. Assumes nothing.
use Rattle.std.proofs.Common.{◌≡◌, ℕ, ◌<◌, ◌≤◌, List, ◌++◌, length, drop, IfOk, Ok, Err, Result, sym, ap, ◌∙◌, subst, append-nil, arith, length-append, length-drop}
use Rattle.std.proofs.lemmas.List.{drop_all}
use Rattle.std.proofs.lemmas.Bool.{cond-true, cond-false, le-leb, lt-leb}
use Rattle.octets.specs.Output.{Writes, fitted}
use Rattle.octets.specs.declared.output.TooShort.{TooShort}

pub fits : (bytes : List ℕ) (room : ℕ) → length bytes ≤ room → fitted bytes room ≡ Ok bytes
fits bytes room h = cond-true _ _ _ (le-leb (length bytes) room h)

pub fits_not : (bytes : List ℕ) (room : ℕ) → room < length bytes → fitted bytes room ≡ Err (record {})
fits_not bytes room h = cond-false _ _ _ (lt-leb (length bytes) room h)

-- an output that the result fills
pub fills : (r : Result ℕ TooShort) (bytes before after : List ℕ) → length bytes ≡ length before → Writes (fitted bytes (length before)) r before after → after ≡ bytes
fills r bytes before after long w =
    let done = subst (λ m. Writes m r before after) (fits bytes (length before) (omega arith)) w in
    done.1 ∙ ap (λ l. bytes ++ l) (drop_all (length bytes) before (omega arith)) ∙ append-nil bytes

-- what was written is no longer than the output
pub written_within : {E : Type 0} (m : Result (List ℕ) E) (r : Result ℕ E) (before after : List ℕ) → length after ≡ length before → Writes m r before after → IfOk r (λ n. n ≤ length before)
written_within (Ok bytes) r before after long w =
    let both = ap length w.1 ∙ length-append bytes (drop (length bytes) before) in
    let rest = length-drop (length bytes) before in
    let fit : length bytes ≤ length before = omega arith in
    subst (λ x. IfOk x (λ n. n ≤ length before)) (sym w.0) fit
written_within (Err e) r before after long w = subst (λ x. IfOk x (λ n. n ≤ length before)) (sym w.0) tt
