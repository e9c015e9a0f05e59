-- A map once more. Assumes nothing.
use Rattle.std.proofs.Common.{◌≡◌, ℕ, ◌+◌, List, sym, ap, ◌∙◌, add-one}
use Rattle.check_aes.specs.Repeated.{repeated}

pub once_more : (f : List ℕ → List ℕ) (n : ℕ) (b before after : List ℕ) → before ≡ repeated f n b → after ≡ f before → after ≡ repeated f (n + 1) b
once_more f n b before after so is = is ∙ ap f so ∙ sym (ap (λ k. repeated f k b) (add-one n))
