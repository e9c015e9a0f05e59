-- Round keys by their places. Assumes nothing.
use Rattle.std.proofs.Common.{◌≡◌, ℕ, suc, ◌+◌, ◌-◌, ◌<◌, ◌≤◌, List, [], ◌∷◌, length, get_or, set, take, drop, map, refl, sym, ap, ◌∙◌, ⊎_elim, arith, length-take, length-drop, length-append}
use Rattle.std.proofs.lemmas.Bool.{cases_lt}
use Rattle.std.proofs.lemmas.Grind.{get_or_after_one}
use Rattle.std.proofs.lemmas.List.{get_or-take, get_or_append_left, get_or-append_right, get_or-set_same, get_or-set_other, get_or-map, length-map}
use Rattle.std.proofs.lemmas.List.FromFn.{fill_by_all, get_or-map-range_with_len, length-map-range_with_len}
use Rattle.std.specs.List.{push}
use Rattle.aes.specs.Cipher.{round_key, key_words, round_keys}
use Rattle.aes.specs.declared.key_schedule.RoundKey.{RoundKey}

-- the keys up to that of round n are those of the expanded key
abbrev pub KeysUpTo : List ℕ → List RoundKey → ℕ → Type 0
KeysUpTo key keys n = (i : ℕ) (d : RoundKey) → i ≤ n → (get_or keys i d).columns ≡ round_key (key_words key) i

pub one_more_key : (key : List ℕ) (keys : List RoundKey) (n : ℕ) (new : RoundKey) → n + 1 < length keys → KeysUpTo key keys n → new.columns ≡ round_key (key_words key) (n + 1) → KeysUpTo key (set keys (n + 1) new) (n + 1)
one_more_key key keys n new fits before is i d le =
    ⊎_elim
    (λ lt. ap (λ k. k.columns) (get_or-set_other keys (n + 1) i new d (omega arith)) ∙ before i d (omega arith))
    (λ ge.
    let here : i ≡ n + 1 = omega arith in
    ap (λ j. (get_or (set keys (n + 1) new) j d).columns) here ∙ ap (λ k. k.columns) (get_or-set_same keys (n + 1) new d fits) ∙ is ∙ ap (round_key (key_words key)) (sym here))
    (cases_lt i (n + 1))

pub all_keys : (key : List ℕ) (keys : List RoundKey) → length keys ≡ 11 → KeysUpTo key keys 10 → map (λ k. k.columns) keys ≡ round_keys key
unfolding round_keys
all_keys key keys long each =
    let none : RoundKey = record { columns = [] } in
    fill_by_all (round_key (key_words key)) (map (λ k. k.columns) keys) 11 [] (length-map keys (λ k. k.columns) ∙ long)
    (λ i h. get_or-map (λ k. k.columns) keys i none [] (omega arith) ∙ each i none (omega arith))

all_long : (key : List ℕ) (keys : List RoundKey) → map (λ k. k.columns) keys ≡ round_keys key → length keys ≡ 11
unfolding round_keys
all_long key keys is = sym (length-map keys (λ k. k.columns)) ∙ ap length is ∙ length-map-range_with_len (round_key (key_words key)) 0 11

pub key_at : (key : List ℕ) (keys : List RoundKey) → map (λ k. k.columns) keys ≡ round_keys key → KeysUpTo key keys 10
unfolding round_keys
key_at key keys is i d le =
    let long = all_long key keys is in
    sym (get_or-map (λ k. k.columns) keys i d [] (omega arith)) ∙ ap (λ l. get_or l i []) is ∙ get_or-map-range_with_len (round_key (key_words key)) 0 11 i i [] (omega arith) (omega arith)

-- keys that begin with that of round 1
abbrev pub KeysAfterFirst : List ℕ → List RoundKey → Type 0
KeysAfterFirst key keys = (i : ℕ) (d : RoundKey) → i < length keys → (get_or keys i d).columns ≡ round_key (key_words key) (suc i)

-- the nine keys in the middle
module _ (key : List ℕ) (keys : List RoundKey) (is : map (λ k. k.columns) keys ≡ round_keys key) where
  pub length_middle : length (take 9 (drop 1 keys)) ≡ 9
  length_middle = omega (arith, all_long key keys is, length-take 9 (drop 1 keys), length-drop 1 keys)

  pub middle_keys : KeysAfterFirst key (take 9 (drop 1 keys))
  middle_keys i d h =
      let within : i < 9 = omega (arith, length_middle) in
      let on : 1 + i ≡ suc i = omega arith in
      ap (λ k. k.columns) (get_or-take 9 (drop 1 keys) i d within ∙ get_or_after_one keys i d) ∙ key_at key keys is (1 + i) d (omega arith)
      ∙ ap (round_key (key_words key)) on

pub one_key_less : (key : List ℕ) (keys : List RoundKey) (last : RoundKey) → KeysAfterFirst key (push keys last)
    → KeysAfterFirst key keys × (last.columns ≡ round_key (key_words key) (suc (length keys)))
one_key_less key keys last each =
    let long : length (push keys last) ≡ length keys + 1 = length-append keys (last ∷ []) in
    let end : length keys - length keys ≡ 0 = omega arith in (
      λ i d h. ap (λ k. k.columns) (sym (get_or_append_left keys (last ∷ []) d i h)) ∙ each i d (omega arith),
      ap (λ j. (get_or (last ∷ []) j last).columns) (sym end) ∙ ap (λ k. k.columns) (sym (get_or-append_right keys (last ∷ []) (length keys) (length keys) last refl (omega arith))) ∙ each (length keys) last (omega arith),
    )
