use Rattle.std.proofs.Common.{◌≡◌}
use Rattle.aes.specs.Cipher.{rounds, key_words}
use Rattle.aes.proofs.aes128.Aes128BlockCipher.encipher.Given as goal

-- the rounds before that of the key are done
abbrev pub invariant-loop-key : goal.invariant-loop-key
invariant-loop-key l =
    (l.s ≡ rounds (key_words l.self.key) l.key-index l.initial.s)
