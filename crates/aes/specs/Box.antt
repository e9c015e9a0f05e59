-- The S-box and its inverse undo each other. Assumes nothing.
use Rattle.std.specs.Prelude.{◌≡◌, ℕ, zero, suc, ◌+◌, ◌<◌, ◌≤◌, Bool, true, nat_eq}
use Rattle.std.proofs.Common.{sym, ap, ◌∙◌, ⊎_elim, arith}
use Rattle.std.proofs.lemmas.Bool.{cases_Bool, true≢false, eqb-true, eq-eqb}
use Rattle.std.specs.List.{range_with_len}
use Rattle.aes.specs.Polynomials.{first, inverse}
use Rattle.aes.specs.Substitution.{affine, s_box, inv_s_box}
use Rattle.aes.specs.Computed.{inverse-inverse, straight, affine_undone, affine_redone}

-- a number that alone passes a test is the first that does
first_only : (test : ℕ → Bool) (x a n : ℕ) → a ≤ x → x < a + n → test x ≡ true → ((z : ℕ) → z < a + n → test z ≡ true → z ≡ x) → first test (range_with_len a n) ≡ x
unfolding first
first_only test x a zero lo hi is only = absurd (omega arith)
first_only test x a (suc n) lo hi is only =
    ⊎_elim
    (λ yes. rw yes (only a (omega arith) yes))
    (λ no.
    let later : a ≡ x → ⊥ = λ e. true≢false (sym is ∙ ap test (sym e) ∙ no) in
    rw no (first_only test x (a + 1) n (omega (arith, later)) (omega arith) is (λ z h. only z (omega arith))))
    (cases_Bool (test a))

-- the first that passes is below a bound of all
first_below : (test : ℕ → Bool) (a n m : ℕ) → a + n ≤ m → 0 < m → first test (range_with_len a n) < m
unfolding first
first_below test a zero m fits some = some
first_below test a (suc n) m fits some =
    ⊎_elim (λ yes. rw yes (omega arith)) (λ no. rw no (first_below test (a + 1) n m (omega arith) some)) (cases_Bool (test a))

inverse_small : (b : ℕ) → inverse b < 256
unfolding inverse
inverse_small b = first_below _ 0 256 256 (omega arith) (omega arith)

affine_small : (b : ℕ) → affine b < 256
unfolding affine
affine_small b = omega arith

straight_small : (b : ℕ) → straight b < 256
unfolding straight
straight_small b = omega arith

pub s_box_small : (x : ℕ) → s_box x < 256
unfolding s_box
s_box_small x = affine_small (inverse x)

pub inv_s_box_small : (y : ℕ) → inv_s_box y < 256
unfolding inv_s_box
inv_s_box_small y = first_below _ 0 256 256 (omega arith) (omega arith)

-- S backwards
unfoldable pub back : ℕ → ℕ
back y = inverse (straight y)

back_small : (y : ℕ) → back y < 256
unfolding back
back_small y = inverse_small (straight y)

back-s_box : (x : ℕ) → x < 256 → back (s_box x) ≡ x
unfolding s_box back
back-s_box x small = ap inverse (affine_undone (inverse x) (inverse_small x)) ∙ inverse-inverse x small

s_box-back : (y : ℕ) → y < 256 → s_box (back y) ≡ y
unfolding s_box back
s_box-back y small = ap affine (inverse-inverse (straight y) (straight_small y)) ∙ affine_redone y small

pub inv_s_box-back : (y : ℕ) → y < 256 → inv_s_box y ≡ back y
unfolding inv_s_box
inv_s_box-back y small =
    let below : back y < 256 = back_small y in
    first_only (λ x. nat_eq (s_box x) y) (back y) 0 256 (omega arith) below (eq-eqb _ _ (s_box-back y small))
    (λ z h e. sym (back-s_box z h) ∙ ap back (eqb-true _ _ e))

pub inv_s_box-s_box : (x : ℕ) → x < 256 → inv_s_box (s_box x) ≡ x
inv_s_box-s_box x small = inv_s_box-back (s_box x) (s_box_small x) ∙ back-s_box x small

pub s_box-inv_s_box : (y : ℕ) → y < 256 → s_box (inv_s_box y) ≡ y
s_box-inv_s_box y small = ap s_box (inv_s_box-back y small) ∙ s_box-back y small
