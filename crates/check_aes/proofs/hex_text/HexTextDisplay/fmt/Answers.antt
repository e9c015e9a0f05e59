use Rattle.check_aes.proofs.Texts.{digits_utf8}
use Rattle.check_aes.proofs.hex_text.HexTextDisplay.fmt.Goals as goal

pub from_utf8_unchecked-requires : goal.from_utf8_unchecked-requires
from_utf8_unchecked-requires g c = digits_utf8 _ c.digits_of-digits.ensures.hexadecimal
