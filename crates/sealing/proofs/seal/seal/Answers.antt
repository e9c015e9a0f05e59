use Rattle.std.proofs.Common.{◌≡◌, ℕ, suc, ◌+◌, ◌-◌, ◌*◌, ◌/◌, ◌≤◌, List, [], ◌++◌, length, get_or, take, drop, replicate, Some, sym, refl, ap, ◌∙◌, subst, arith, rules}
use Rattle.octets.specs.Bytes.{Small, ◌⊕◌}
use Rattle.cipher.specs.Keyed.{laws}
use Rattle.sealing.specs.Blocks.{block}
use Rattle.sealing.specs.Padding.{padded}
use Rattle.sealing.proofs.Chaining.{chain_none, chain_more}
use Rattle.sealing.proofs.Cutting.{block_at, chunk_is}
use Rattle.sealing.proofs.Padded.{whole_block, end_block}
use Rattle.sealing.proofs.Made.{within_limit, made_written, made_distinct}
use Rattle.sealing.proofs.seal.seal.Goals as goal

pub loop-i-init : goal.loop-i-init
loop-i-init g c =
    let long : length c.sealed_block-before.result ≡ 16 = search rules in
    (chain_none _ _ _ _ (ap (block 1) c.store.ensures ∙ block_at 0 [] c.sealed_block-before.result (drop 16 c.args.out.now) refl long), search rules)

pub loop-i-preserved : goal.loop-i-preserved
loop-i-preserved g c =
    let f = g.C.BlockCipher.enc (g.C.BlockCipher.held c.keyed-cipher.result) in
    let long : length c.sealed_block-sealed.result ≡ 16 = search rules in
    let room : 16 * (c.loop-i.i + 1) + 16 ≤ length c.loop-i.out = search rules in
    let dataset = c.args.dataset.now in
    let i = c.loop-i.i in
    let piece : get_or c.as_chunks.result.0.now i [] ≡ block (suc i) (padded dataset) =
    chunk_is dataset c.as_chunks.result.0.now i c.as_chunks.ensures.front (omega (arith, c.as_chunks.ensures.front_len)) ∙ sym (whole_block dataset i (omega (arith, c.as_chunks.ensures.front_len))) in
    let is : c.sealed_block-sealed.result ≡ f (block (suc i) (padded dataset) ⊕ c.loop-i.before) =
    c.sealed_block-sealed.ensures ∙ ap (λ x. f (x ⊕ c.loop-i.before)) piece in
    (chain_more f _ _ _ c.loop-i.i c.loop-i.before c.loop-i.out c.sealed_block-sealed.result room long c.store-in-loop-i.new.out c.store-in-loop-i.ensures c.loop-i.invariant.0 is, search rules)

-- the block in which the dataset ends, made of the rest behind its whole blocks
end_is : (dataset rest b : List ℕ) (n : ℕ) → n ≡ length dataset / 16 → rest ≡ drop (length dataset / 16 * 16) dataset → b ≡ rest ++ replicate (16 - length rest) (16 - length rest) → b ≡ block (suc n) (padded dataset)
end_is dataset rest b n whole so is =
    let at : length dataset / 16 * 16 ≡ 16 * n = omega arith in
    is ∙ ap (λ r. r ++ replicate (16 - length r) (16 - length r)) (so ∙ ap (λ m. drop m dataset) at) ∙ sym (end_block dataset n (omega arith) (omega arith))

pub returns : goal.returns
returns g c =
    let E = g.C.BlockCipher.enc in
    let f = E (g.C.BlockCipher.held c.keyed-cipher.result) in
    let lead = c.args.beginning.now.lead.0 in
    let start = c.args.beginning.now.start.0 in
    let dataset = c.args.dataset.now in
    let before = c.args.out.now in
    let n = c.loop-i.i in
    let b = c.sealed_block-last.result in
    let count = c.in_ok-count.count in
    let out = c.store-2.new.out in
    let held = c.keyed-cipher.ensures.kept in
    let head = c.sealed_block-before.ensures ∙ ap (λ k. E k (lead ⊕ start)) held in
    let end : n ≡ length c.as_chunks.result.0.now = omega (arith, c.as_chunks.ensures.front_len) in
    let whole : n ≡ length dataset / 16 = end ∙ c.as_chunks.ensures.front_len in
    let counted : Some count ≡ c.sealed_length.result = search rules in
    let told = within_limit (length dataset) count (counted ∙ c.sealed_length.ensures) in
    let fits : count ≤ length before = search rules in
    let sixteen : length c.sealed_block-before.result ≡ 16 = search rules in
    let last_sixteen : length b ≡ 16 = search rules in
    let long : length c.loop-i.out ≡ length before = search rules in
    let long_after : length out ≡ length before = search rules in
    let given : Small dataset = search rules in
    let made : Small out = search rules in
    let room : 16 * (n + 1) + 16 ≤ length c.loop-i.out = omega (arith, told.1, whole) in
    let put = subst (λ m. out ≡ take (16 * (m + 1)) c.loop-i.out ++ (b ++ drop (16 * (m + 1) + 16) c.loop-i.out)) (sym end) c.store-2.ensures in
    let is : b ≡ f (block (suc n) (padded dataset) ⊕ c.loop-i.before) =
    c.sealed_block-last.ensures ∙ ap (λ x. f (x ⊕ c.loop-i.before)) (end_is dataset c.as_chunks.result.1.now c.pad.result n whole c.as_chunks.ensures.back c.pad.ensures) in
    let chain = chain_more f _ _ _ n c.loop-i.before c.loop-i.out b room last_sixteen out put c.loop-i.invariant.0 is in
    let all : n + 1 ≡ length dataset / 16 + 1 = ap (λ m. m + 1) whole in
    record {
      written = made_written E _ lead start dataset before _ _ _ _ _ out chain (ap E held) head all told.0 count told.1 fits long_after given made c.store.ensures sixteen;
      count = told.1;
      distinct = made_distinct E _ lead start dataset before _ _ _ _ _ out chain (ap E held) head all told.0 count told.1 fits long_after given made g.C.BlockCipher.dec (laws E _ _ c.keyed-cipher.ensures.lawful);
      examples = refl;
    }
