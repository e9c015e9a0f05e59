use Rattle.std.proofs.Common.{◌≡◌, ℕ, ◌<◌, List, [], Global, String, get_or, length, map, string_bytes, sym, ap, ◌∙◌, arith}
use Rattle.std.proofs.lemmas.List.{get_or-map, length-map}
use Rattle.std.proofs.lemmas.Slice.Eq.{bytes_eq-Decides}
use Rattle.commands.specs.Call.{word}
use Rattle.commands.proofs.call.parse.Goals as goal

-- a word of the call, as text
module _ (words : List (String Global)) (i : ℕ) (item : String Global) (text : List ℕ) where
  pub text_is : i < length words → item ≡ get_or words i item → text ≡ string_bytes item → text ≡ word (map string_bytes words) i
  text_is lt is told = told ∙ ap string_bytes is ∙ sym (get_or-map string_bytes words i item [] lt)

pub returns-in-len2 : goal.returns-in-len2
returns-in-len2 c =
    let words = c.args.words.now in (
      length-map words string_bytes ∙ (omega arith),
      sym (text_is words 1 _ _ (omega arith) c.name-item.is c.as_str.ensures.value) ∙ (bytes_eq-Decides _ _).0 (sym c.if-eq.ensures),
    )

pub returns-in-len5 : goal.returns-in-len5
returns-in-len5 c =
    let words = c.args.words.now in (
      length-map words string_bytes ∙ (omega arith),
      sym (text_is words 1 _ _ (omega arith) c.name-item-then-words-lt6.is c.as_str-then-words-lt6.ensures.value) ∙ (bytes_eq-Decides _ _).0 (sym c.if-eq-2.ensures),
      text_is words 2 _ _ (omega arith) c.id-item.is c.as_str-in-len5.ensures.value,
      text_is words 3 _ _ (omega arith) c.key_file-item.is c.as_str-in-len5-2.ensures.value,
      text_is words 4 _ _ (omega arith) c.hardware_file-item.is c.as_str-in-len5-3.ensures.value,
    )
