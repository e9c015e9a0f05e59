use Rattle.std.proofs.Common.{◌≡◌, suc, [], ◌∷◌, length, length-append, sym, ap, ◌∙◌, ap₂, subst, arith}
use Rattle.aes.specs.Cipher.{key_words, inv_rounds, inv_cipher, dec_block}
use Rattle.aes.specs.Steps.{block, inv_sub_bytes, inv_shift_rows, inv_mix_columns, add_round_key}
use Rattle.aes.proofs.RoundKeys.{KeysAfterFirst, middle_keys, length_middle, one_key_less, key_at}
use Rattle.aes.proofs.aes128.Aes128BlockCipher.decipher.Goals as goal

pub loop-key-init : goal.loop-key-init
loop-key-init c =
    let self = c.args.self.now in
    let all : c.into_iter-key-iterator.result.iter.rest.now ≡ c.iter.result.rest.now = cc in
    let is = sym (all ∙ c.iter.ensures.rest) in (
      subst (KeysAfterFirst self.key) is (middle_keys self.key self.round_keys self.expanded),
      ap (λ n. inv_rounds (key_words self.key) n c.add_round_key-s.result) (sym (ap length is) ∙ length_middle self.key self.round_keys self.expanded),
    )

pub loop-key-preserved : goal.loop-key-preserved
unfolding inv_rounds
loop-key-preserved c =
    let key = c.args.self.now.key in
    let left = c.next.new.self.iter.rest.now in
    let steps = c.in-Some.ensures.steps in
    let split = one_key_less key left c.in-Some.key.now (subst (KeysAfterFirst key) steps c.loop-key.invariant.0) in
    let more : suc (length left) ≡ length c.loop-key.key-iterator.iter.rest.now = omega (arith, ap length steps, length-append left (c.in-Some.key.now ∷ [])) in (
      split.0,
      ap (inv_rounds (key_words key) (length left))
          (c.inv_mix_columns-s.ensures
          ∙ ap inv_mix_columns
          (c.add_round_key.ensures ∙ ap₂ add_round_key (c.inv_sub_bytes.ensures ∙ ap inv_sub_bytes c.inv_shift_rows.ensures) split.1))
          ∙ ap (λ m. inv_rounds (key_words key) m c.loop-key.s) more
          ∙ c.loop-key.invariant.1,
    )

pub returns : goal.returns
unfolding inv_rounds inv_cipher dec_block
returns c =
    let self = c.args.self.now in
    let w = key_words self.key in
    let at = key_at self.key self.round_keys self.expanded in
    let start = c.add_round_key-s.ensures ∙ ap₂ add_round_key c.from_block.ensures (at 10 _ (omega arith)) in
    let done = ap (λ m. inv_rounds w m c.loop-key.s) (sym c.in-None.ensures.steps.0) ∙ c.loop-key.invariant.1 ∙ ap (inv_rounds w 9) start in
    c.to_block.ensures
    ∙ ap block
    (c.add_round_key-2.ensures
    ∙ ap₂ add_round_key (c.inv_sub_bytes-2.ensures ∙ ap inv_sub_bytes (c.inv_shift_rows-2.ensures ∙ ap inv_shift_rows done)) (at 0 _ (omega arith)))
