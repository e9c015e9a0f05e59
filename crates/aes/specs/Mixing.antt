-- Columns times matrices: what two such maps do to a column with one byte settles what they do to every column.
-- Assumes nothing.
use Rattle.std.specs.Prelude.{◌≡◌, ℕ, zero, suc, ◌*◌, ◌/◌, ◌%◌, ◌<◌, List, [], ◌∷◌, bit_xor, slice_index}
use Rattle.std.proofs.Math.Path.{refl, ap, ap₂}
use Rattle.std.proofs.Common.{sym, ◌∙◌, zero-mul, one-mul, arith}
use Rattle.std.proofs.lemmas.Nat.{xor_lt, xor_comm}
use Rattle.std.specs.Int.Bits.{xor_zero_r, xor_assoc}
use Rattle.octets.specs.Bytes.{◌⊕◌}
use Rattle.octets.proofs.Xor.{xor_pairs}
use Rattle.aes.specs.Polynomials.{times_x, product, ◌·◌}
use Rattle.aes.specs.Steps.{mixed}
use Rattle.aes.specs.Computed.{each, times_x_add, times_x_small, none_times, once, doubled_twice, fivefold}

-- products

bit_add : (x b c : ℕ) → x < 2 → x * bit_xor b c ≡ bit_xor (x * b) (x * c)
bit_add zero b c h = simp zero-mul
bit_add (suc zero) b c h = simp one-mul
bit_add (suc (suc x)) b c h = absurd (omega arith)

product_add : (n a b c : ℕ) → b < 256 → c < 256 → product n a (bit_xor b c) ≡ bit_xor (product n a b) (product n a c)
unfolding product
product_add zero a b c hb hc = refl
product_add (suc n) a b c hb hc =
    ap₂ bit_xor (bit_add (a % 2) b c (omega arith))
    (ap (product n (a / 2)) (times_x_add b c hb hc) ∙ product_add n (a / 2) (times_x b) (times_x c) (times_x_small b hb) (times_x_small c hc))
    ∙ xor_pairs (a % 2 * b) (a % 2 * c) (product n (a / 2) (times_x b)) (product n (a / 2) (times_x c))

bit_small : (x b : ℕ) → x < 2 → b < 256 → x * b < 256
bit_small zero b h hb = omega arith
bit_small (suc zero) b h hb = omega arith
bit_small (suc (suc x)) b h hb = absurd (omega arith)

pub product_small : (n a b : ℕ) → b < 256 → product n a b < 256
unfolding product
product_small zero a b hb = omega arith
product_small (suc n) a b hb =
    xor_lt 8 _ _ (bit_small (a % 2) b (omega arith) hb) (product_small n (a / 2) (times_x b) (times_x_small b hb))

-- columns

abbrev pub four : ℕ → ℕ → ℕ → ℕ → List ℕ
four a b c d = a ∷ b ∷ c ∷ d ∷ []

abbrev pub IsFourBytes : ℕ → ℕ → ℕ → ℕ → Type 0
IsFourBytes a b c d = (a < 256) × (b < 256) × (c < 256) × (d < 256)

abbrev Additive : (List ℕ → List ℕ) → Type 0
Additive f =
    (a b c d a' b' c' d' : ℕ) → IsFourBytes a b c d → IsFourBytes a' b' c' d'
    → f (four (bit_xor a a') (bit_xor b b') (bit_xor c c') (bit_xor d d')) ≡ f (four a b c d) ⊕ f (four a' b' c' d')

-- the column turned by one row
turn : List ℕ → List ℕ
turn w = four (slice_index w 1) (slice_index w 2) (slice_index w 3) (slice_index w 0)

abbrev Turns : (List ℕ → List ℕ) → Type 0
Turns f = (a b c d : ℕ) → f (four b c d a) ≡ turn (f (four a b c d))

abbrev Linear : (List ℕ → List ℕ) → Type 0
Linear f = Additive f × Turns f

spread : (f : List ℕ → List ℕ) → Additive f → (a b c d : ℕ) → IsFourBytes a b c d
    → f (four a b c d) ≡ f (four a 0 0 0) ⊕ (f (four 0 b 0 0) ⊕ (f (four 0 0 c 0) ⊕ f (four 0 0 0 d)))
spread f add a b c d (ha, hb, hc, hd) =
    let none : 0 < 256 = omega arith in
    ap (λ x. f (four x b c d)) (sym (xor_zero_r a)) ∙ add a 0 0 0 0 b c d (ha, none, none, none) (none, hb, hc, hd)
    ∙ ap (λ l. f (four a 0 0 0) ⊕ l)
    (ap (λ x. f (four 0 x c d)) (sym (xor_zero_r b)) ∙ add 0 b 0 0 0 0 c d (none, hb, none, none) (none, none, hc, hd)
    ∙ ap (λ l. f (four 0 b 0 0) ⊕ l) (ap (λ x. f (four 0 0 x d)) (sym (xor_zero_r c)) ∙ add 0 0 c 0 0 0 0 d (none, none, hc, none) (none, none, none, hd)))

agree : (f g : List ℕ → List ℕ) → Linear f → Linear g → ((b : ℕ) → b < 256 → f (four b 0 0 0) ≡ g (four b 0 0 0))
    → (a b c d : ℕ) → IsFourBytes a b c d → f (four a b c d) ≡ g (four a b c d)
agree f g (add-f, turn-f) (add-g, turn-g) first a b c d (ha, hb, hc, hd) =
    let turned : (a b c d : ℕ) → f (four a b c d) ≡ g (four a b c d) → f (four b c d a) ≡ g (four b c d a) = λ a b c d e. turn-f a b c d ∙ ap turn e ∙ sym (turn-g a b c d) in
    let fourth : (b : ℕ) → b < 256 → f (four 0 0 0 b) ≡ g (four 0 0 0 b) = λ b h. turned b 0 0 0 (first b h) in
    let third : (b : ℕ) → b < 256 → f (four 0 0 b 0) ≡ g (four 0 0 b 0) = λ b h. turned 0 0 0 b (fourth b h) in
    let second : (b : ℕ) → b < 256 → f (four 0 b 0 0) ≡ g (four 0 b 0 0) = λ b h. turned 0 0 b 0 (third b h) in
    spread f add-f a b c d (ha, hb, hc, hd)
    ∙ ap₂ ◌⊕◌ (first a ha) (ap₂ ◌⊕◌ (second b hb) (ap₂ ◌⊕◌ (third c hc) (fourth d hd)))
    ∙ sym (spread g add-g a b c d (ha, hb, hc, hd))

module _ (k l m n : ℕ) where
  abbrev sum : ℕ → ℕ → ℕ → ℕ → ℕ
  sum a b c d = bit_xor (bit_xor (bit_xor (k · a) (l · b)) (m · c)) (n · d)

  sum_add : (a b c d a' b' c' d' : ℕ) → IsFourBytes a b c d → IsFourBytes a' b' c' d'
      → sum (bit_xor a a') (bit_xor b b') (bit_xor c c') (bit_xor d d') ≡ bit_xor (sum a b c d) (sum a' b' c' d')
  sum_add a b c d a' b' c' d' (ha, hb, hc, hd) (ha', hb', hc', hd') =
      ap₂ bit_xor
      (ap₂ bit_xor
      (ap₂ bit_xor (product_add 8 k a a' ha ha') (product_add 8 l b b' hb hb') ∙ xor_pairs (k · a) (k · a') (l · b) (l · b'))
      (product_add 8 m c c' hc hc') ∙ xor_pairs (bit_xor (k · a) (l · b)) (bit_xor (k · a') (l · b')) (m · c) (m · c'))
      (product_add 8 n d d' hd hd')
      ∙ xor_pairs (bit_xor (bit_xor (k · a) (l · b)) (m · c)) (bit_xor (bit_xor (k · a') (l · b')) (m · c')) (n · d) (n · d')

  pub sum_small : (a b c d : ℕ) → IsFourBytes a b c d → sum a b c d < 256
  sum_small a b c d (ha, hb, hc, hd) =
      xor_lt 8 _ _ (xor_lt 8 _ _ (xor_lt 8 _ _ (product_small 8 k a ha) (product_small 8 l b hb)) (product_small 8 m c hc)) (product_small 8 n d hd)

  mixed_add : Additive (mixed k l m n)
  unfolding mixed
  mixed_add a b c d a' b' c' d' (ha, hb, hc, hd) (ha', hb', hc', hd') =
      ap₂ ◌∷◌ (sum_add a b c d a' b' c' d' (ha, hb, hc, hd) (ha', hb', hc', hd'))
      (ap₂ ◌∷◌ (sum_add b c d a b' c' d' a' (hb, hc, hd, ha) (hb', hc', hd', ha'))
      (ap₂ ◌∷◌ (sum_add c d a b c' d' a' b' (hc, hd, ha, hb) (hc', hd', ha', hb'))
      (ap₂ ◌∷◌ (sum_add d a b c d' a' b' c' (hd, ha, hb, hc) (hd', ha', hb', hc')) refl)))

  mixed_turns : Turns (mixed k l m n)
  unfolding mixed turn
  mixed_turns a b c d = refl

module _ (k l m n k' l' m' n' : ℕ) where
  both : List ℕ → List ℕ
  both w = mixed k l m n (mixed k' l' m' n' w)

  both_linear : Linear both
  unfolding both mixed turn
  both_linear = (
    λ a b c d a' b' c' d' h h'.
        let (ha, hb, hc, hd) = h in
        let (ha', hb', hc', hd') = h' in
        let s = sum_small k' l' m' n' in
        ap (mixed k l m n) (mixed_add k' l' m' n' a b c d a' b' c' d' h h')
        ∙ mixed_add k l m n _ _ _ _ _ _ _ _
        (s a b c d (ha, hb, hc, hd), s b c d a (hb, hc, hd, ha), s c d a b (hc, hd, ha, hb), s d a b c (hd, ha, hb, hc))
        (s a' b' c' d' (ha', hb', hc', hd'), s b' c' d' a' (hb', hc', hd', ha'), s c' d' a' b' (hc', hd', ha', hb'), s d' a' b' c' (hd', ha', hb', hc')),
    λ a b c d. refl,
  )

same_linear : Linear (λ w. w)
unfolding turn
same_linear = (λ a b c d a' b' c' d' h h'. refl, λ a b c d. refl)

-- the inverse matrix undoes the matrix, and is undone by it
unmixed_first : (b : ℕ) → b < 256 → both 0x0E 0x0B 0x0D 0x09 2 3 1 1 (four b 0 0 0) ≡ four b 0 0 0
unfolding times_x product mixed both
unmixed_first = each (λ b. both 0x0E 0x0B 0x0D 0x09 2 3 1 1 (four b 0 0 0)) (λ b. four b 0 0 0) refl

pub unmixed : (a b c d : ℕ) → IsFourBytes a b c d → mixed 0x0E 0x0B 0x0D 0x09 (mixed 2 3 1 1 (four a b c d)) ≡ four a b c d
unfolding both
unmixed = agree (both 0x0E 0x0B 0x0D 0x09 2 3 1 1) (λ w. w) (both_linear 0x0E 0x0B 0x0D 0x09 2 3 1 1) same_linear unmixed_first

remixed_first : (b : ℕ) → b < 256 → both 2 3 1 1 0x0E 0x0B 0x0D 0x09 (four b 0 0 0) ≡ four b 0 0 0
unfolding times_x product mixed both
remixed_first = each (λ b. both 2 3 1 1 0x0E 0x0B 0x0D 0x09 (four b 0 0 0)) (λ b. four b 0 0 0) refl

pub remixed : (a b c d : ℕ) → IsFourBytes a b c d → mixed 2 3 1 1 (mixed 0x0E 0x0B 0x0D 0x09 (four a b c d)) ≡ four a b c d
unfolding both
remixed = agree (both 2 3 1 1 0x0E 0x0B 0x0D 0x09) (λ w. w) (both_linear 2 3 1 1 0x0E 0x0B 0x0D 0x09) same_linear remixed_first

-- a simpler matrix, after which the matrix gives what its inverse gives
two_steps_first : (b : ℕ) → b < 256 → both 2 3 1 1 5 0 4 0 (four b 0 0 0) ≡ mixed 0x0E 0x0B 0x0D 0x09 (four b 0 0 0)
unfolding times_x product mixed both
two_steps_first = each (λ b. both 2 3 1 1 5 0 4 0 (four b 0 0 0)) (λ b. mixed 0x0E 0x0B 0x0D 0x09 (four b 0 0 0)) refl

in_two_steps : (a b c d : ℕ) → IsFourBytes a b c d → mixed 2 3 1 1 (mixed 5 0 4 0 (four a b c d)) ≡ mixed 0x0E 0x0B 0x0D 0x09 (four a b c d)
unfolding both
in_two_steps =
    agree (both 2 3 1 1 5 0 4 0) (mixed 0x0E 0x0B 0x0D 0x09) (both_linear 2 3 1 1 5 0 4 0)
    (mixed_add 0x0E 0x0B 0x0D 0x09, mixed_turns 0x0E 0x0B 0x0D 0x09) two_steps_first

-- what the code computes for a byte of a mixed column

pub mixed_row : {s t : ℕ} (c d : ℕ) → s ≡ t → c < 256 → d < 256 → bit_xor (bit_xor s c) d ≡ bit_xor (bit_xor t (1 · c)) (1 · d)
mixed_row c d same hc hd = ap₂ bit_xor (ap₂ bit_xor same (sym (once c hc))) (sym (once d hd))

four_times : (a c : ℕ) → a < 256 → c < 256 → 2 · (2 · bit_xor a c) ≡ bit_xor (4 · a) (4 · c)
four_times a c ha hc = doubled_twice (bit_xor a c) (xor_lt 8 a c ha hc) ∙ product_add 8 4 a c ha hc

simple_row : (a b c d u : ℕ) → IsFourBytes a b c d → u ≡ bit_xor (4 · a) (4 · c)
    → bit_xor a u ≡ bit_xor (bit_xor (bit_xor (5 · a) (0 · b)) (4 · c)) (0 · d)
simple_row a b c d u (ha, hb, hc, hd) is =
    ap (bit_xor a) is ∙ sym (xor_assoc a (4 · a) (4 · c)) ∙ ap (λ x. bit_xor x (4 · c)) (fivefold a ha)
    ∙ ap (λ x. bit_xor x (4 · c)) (sym (ap (bit_xor (5 · a)) (none_times b hb) ∙ xor_zero_r (5 · a)))
    ∙ sym (ap (bit_xor (bit_xor (bit_xor (5 · a) (0 · b)) (4 · c))) (none_times d hd) ∙ xor_zero_r _)

pub mixed_in_two : {a b c d even odd : ℕ} → IsFourBytes a b c d → even ≡ 2 · (2 · bit_xor a c) → odd ≡ 2 · (2 · bit_xor b d)
    → mixed 2 3 1 1 (four (bit_xor a even) (bit_xor b odd) (bit_xor c even) (bit_xor d odd)) ≡ mixed 0x0E 0x0B 0x0D 0x09 (four a b c d)
unfolding mixed
mixed_in_two {a = a} {b = b} {c = c} {d = d} {even = even} {odd = odd} (ha, hb, hc, hd) is-even is_odd =
    let e = is-even ∙ four_times a c ha hc in
    let o = is_odd ∙ four_times b d hb hd in
    let simple : four (bit_xor a even) (bit_xor b odd) (bit_xor c even) (bit_xor d odd) ≡ mixed 5 0 4 0 (four a b c d)
    = ap₂ ◌∷◌ (simple_row a b c d even (ha, hb, hc, hd) e)
    (ap₂ ◌∷◌ (simple_row b c d a odd (hb, hc, hd, ha) o)
    (ap₂ ◌∷◌ (simple_row c d a b even (hc, hd, ha, hb) (e ∙ xor_comm (4 · a) (4 · c)))
    (ap₂ ◌∷◌ (simple_row d a b c odd (hd, ha, hb, hc) (o ∙ xor_comm (4 · b) (4 · d))) refl))) in
    ap (mixed 2 3 1 1) simple ∙ in_two_steps a b c d (ha, hb, hc, hd)
