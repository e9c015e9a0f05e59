-- A state whose columns are mapped. Assumes nothing.
use Rattle.std.proofs.Common.{◌≡◌, ℕ, List, [], slice_index_or}
use Rattle.std.proofs.lemmas.List.FromFn.{fill_by_all}
use Rattle.std.specs.Array.{IsMapOf}
use Rattle.std.specs.Fn.{Called}
use denote.Param.Members.{Mut}
use Rattle.aes.specs.Steps.{State, columns}

pub mapped : {F : Type 0} (g : Mut F (List ℕ × Unit {0}) (List ℕ)) (f : List ℕ → List ℕ) (p : F) (s t : State)
    → ((p q : F) (x y : List ℕ) → Called g p (x, tt) y q → y ≡ f x) → IsMapOf g p s t 4 → t ≡ columns (λ c. f (slice_index_or s c []))
mapped g f p s t gives is =
    fill_by_all (λ c. f (slice_index_or s c [])) t 4 [] is.long (λ c h. let call = is.at c [] [] h in gives call.0 call.1 (slice_index_or s c []) (slice_index_or t c []) call.2)
