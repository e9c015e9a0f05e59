-- The words that a key is expanded to. Assumes nothing.
use Rattle.std.specs.Prelude.{ℕ, zero, suc, ◌+◌, ◌-◌, ◌*◌, ◌/◌, ◌%◌, cond, ◌&&◌, List, [], ◌∷◌, ◌++◌, map, get_or, ◌==◌, nat_lt, slice_index, slice_index_or}
use Rattle.std.specs.List.{range_with_len}
use Rattle.octets.specs.Bytes.{◌⊕◌}
use Rattle.aes.specs.Polynomials.{power}
use Rattle.aes.specs.Steps.{State, word, sub_word}

-- the bytes of a word turned left by one place
abbrev pub rot_word : List ℕ → List ℕ
rot_word w = word (λ r. slice_index w ((r + 1) % 4))

-- x to the power j - 1, in a word's first byte
abbrev pub rcon : ℕ → List ℕ
rcon j = power 2 (j - 1) ∷ 0 ∷ 0 ∷ 0 ∷ []

-- what goes into word i besides word i - nk, where a key has nk words; t is word i - 1. Keys of more than six words have
-- one more place for S.
abbrev pub turned : ℕ → ℕ → List ℕ → List ℕ
turned nk i t =
    cond (i % nk == 0) (sub_word (rot_word t) ⊕ rcon (i / nk))
    (cond (nat_lt 6 nk && i % nk == 4) (sub_word t) t)

-- word i, from those before it
unfoldable pub next : ℕ → List (List ℕ) → ℕ → List ℕ
next nk w i = get_or w (i - nk) [] ⊕ turned nk i (slice_index_or w (i - 1) [])

-- the round key after s in AES-128, whose keys have four words as the state has; p is the power of x
abbrev pub following : State → ℕ → State
following s p =
    let a = get_or s 0 [] ⊕ (sub_word (rot_word (get_or s 3 [])) ⊕ (p ∷ 0 ∷ 0 ∷ 0 ∷ [])) in
    let b = get_or s 1 [] ⊕ a in
    let c = get_or s 2 [] ⊕ b in
    a ∷ b ∷ c ∷ (get_or s 3 [] ⊕ c) ∷ []

-- the words of the key k, and n more
unfoldable pub expanded : ℕ → List ℕ → ℕ → List (List ℕ)
expanded nk k zero = map (λ i. word (λ r. slice_index k (4 * i + r))) (range_with_len 0 nk)
expanded nk k (suc n) = let w = expanded nk k n in w ++ (next nk w (nk + n) ∷ [])

-- four words for the start and for each of nr rounds
abbrev pub key_expansion : ℕ → ℕ → List ℕ → List (List ℕ)
key_expansion nk nr k = expanded nk k (4 * (nr + 1) - nk)
