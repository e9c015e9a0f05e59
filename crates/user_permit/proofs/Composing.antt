-- The three parts of a user permit, written one behind the other. Assumes nothing.
use Rattle.std.proofs.Common.{◌≡◌, ℕ, List, ◌++◌, length, take, drop, sym, ap, ◌∙◌, ap₂, append_assoc, arith, length-append}
use borrow.Rule.Slice.PartMut.{put_mid}
use Rattle.std.proofs.lemmas.List.{take_at, drop_at, drop-drop}
use Rattle.octets.specs.Hex.{hex}
use Rattle.octets.proofs.Digits.{length-hex}
use Rattle.user_permit.specs.Crc32.{crc32}
use Rattle.user_permit.specs.Lawful.{big_endian, checksum_of, permit_text}

-- a part of k bytes written behind p
put_behind : (p q ys : List ℕ) (n k : ℕ) → length p ≡ n → put_mid n k (p ++ q) ys ≡ (p ++ ys) ++ drop k q
put_behind p q ys n k e =
    ap₂ (λ x y. x ++ (ys ++ drop k y)) (take_at p q n e) (drop_at p q n e) ∙ sym (append_assoc p ys (drop k q))

put_three : (a s d o : List ℕ) → length a ≡ 32 → length s ≡ 8 → put_mid 40 6 (put_mid 32 8 (a ++ drop 32 o) s) d ≡ (a ++ (s ++ d)) ++ drop 46 o
put_three a s d o la ls =
    let long = length-append a s in
    ap (λ l. put_mid 40 6 l d) (put_behind a (drop 32 o) s 32 8 la)
    ∙ put_behind (a ++ s) (drop 8 (drop 32 o)) d 40 6 (omega arith)
    ∙ ap₂ (λ x y. x ++ y) (append_assoc a s d) (ap (drop 6) (drop-drop 8 32 o) ∙ drop-drop 6 40 o)

pub length-checksum_of : (t : List ℕ) → length (checksum_of t) ≡ 8
unfolding checksum_of
length-checksum_of t = length-hex (big_endian (crc32 t))

-- the digits, their checksum and the manufacturer ID over the output's first 46 places
pub composed : (encrypted id o a s d : List ℕ) → length (hex encrypted) ≡ 32 → a ≡ hex encrypted → s ≡ checksum_of (take 32 (a ++ drop 32 o)) → d ≡ id → put_mid 40 6 (put_mid 32 8 (a ++ drop 32 o) s) d ≡ permit_text encrypted id ++ drop 46 o
unfolding permit_text
composed encrypted id o a s d long is-a is-s is-d =
    let digits = hex encrypted in
    let sum : s ≡ checksum_of digits = is-s ∙ ap checksum_of (take_at a (drop 32 o) 32 (ap length is-a ∙ long) ∙ is-a) in
    put_three a s d o (ap length is-a ∙ long) (ap length sum ∙ length-checksum_of digits)
    ∙ ap₂ (λ x y. (x ++ y) ++ drop 46 o) is-a (ap₂ (λ x y. x ++ y) sum is-d)
