use Rattle.std.proofs.Common.{◌≡◌, length}
use Rattle.aes.specs.Cipher.{inv_rounds, key_words}
use Rattle.aes.proofs.RoundKeys.{KeysAfterFirst}
use Rattle.aes.proofs.aes128.Aes128BlockCipher.decipher.Given as goal

-- the rounds of the keys that are left end where all rounds would
abbrev pub invariant-loop-key : goal.invariant-loop-key
invariant-loop-key l =
    let left = l.key-iterator.iter.rest.now in
    KeysAfterFirst l.self.key left × (inv_rounds (key_words l.self.key) (length left) l.s ≡ inv_rounds (key_words l.self.key) 9 l.initial.s)
