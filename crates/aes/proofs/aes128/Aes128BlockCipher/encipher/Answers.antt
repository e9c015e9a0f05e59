use Rattle.std.proofs.Common.{◌≡◌, suc, ◌+◌, refl, ap, ◌∙◌, ap₂, arith}
use Rattle.aes.specs.Cipher.{key_words, rounds, cipher, enc_block}
use Rattle.aes.specs.Steps.{block, sub_bytes, shift_rows, mix_columns, add_round_key}
use Rattle.aes.specs.Computed.{examples}
use Rattle.aes.proofs.RoundKeys.{middle_keys, length_middle, key_at}
use Rattle.aes.proofs.aes128.Aes128BlockCipher.encipher.Goals as goal

pub loop-key-init : goal.loop-key-init
unfolding rounds
loop-key-init c = refl

pub loop-key-preserved : goal.loop-key-preserved
unfolding rounds
loop-key-preserved c =
    let self = c.args.self.now in
    let i = c.loop-key.key-index in
    let on : suc i ≡ i + 1 = omega arith in
    c.add_round_key-s-in-loop-key.ensures
    ∙ ap₂ add_round_key
    (c.mix_columns.ensures ∙ ap mix_columns (c.shift_rows.ensures ∙ ap shift_rows (c.sub_bytes.ensures ∙ ap sub_bytes c.loop-key.invariant)))
    (middle_keys self.key self.round_keys self.expanded i _ c.loop-key-test.true)
    ∙ ap (λ m. rounds (key_words self.key) m c.add_round_key-s.result) on

pub returns : goal.returns
unfolding cipher enc_block
returns c =
    let self = c.args.self.now in
    let at = key_at self.key self.round_keys self.expanded in
    let end : c.loop-key.key-index ≡ 9 = omega (arith, length_middle self.key self.round_keys self.expanded) in
    let start = c.add_round_key-s.ensures ∙ ap₂ add_round_key c.from_block.ensures (at 0 _ (omega arith)) in
    record {
      value = c.to_block.ensures
          ∙ ap block
          (c.add_round_key.ensures
          ∙ ap₂ add_round_key
          (c.shift_rows-2.ensures
          ∙ ap shift_rows
          (c.sub_bytes-2.ensures ∙ ap sub_bytes (c.loop-key.invariant ∙ ap₂ (rounds (key_words self.key)) end start)))
          (at 10 _ (omega arith)));
      examples = examples;
    }
