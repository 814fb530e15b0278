use Rattle.std.proofs.Common.{◌++◌, refl, arith, codes}
use Rattle.page_store.specs.Format.{head_rest, little}
use Rattle.qsr_layout.specs.Page.{PageHolds}
use Rattle.qsr_layout.proofs.Bytes.{holds_more, is_part}
use Rattle.page_store.proofs.records.head_page.Goals as goal

pub returns : goal.returns
unfolding head_rest
returns c =
    let sizes = c.args.sizes.now in
    let text : PageHolds c.put_head_field.new.page 1 (codes "QSRSTOR1") = c.put_head_field.ensures.bytes in
    let version = holds_more _ _ (codes "QSRSTOR1") (little 2 1) 1 9 2 refl text c.put_head_field-2.ensures.bytes c.put_head_field-2.ensures.outside in
    let tables = holds_more _ _ (codes "QSRSTOR1" ++ little 2 1) (little 4 sizes.table) 1 11 4 refl version c.put_head_field-3.ensures.bytes c.put_head_field-3.ensures.outside in
    let indexes = holds_more _ _ (codes "QSRSTOR1" ++ little 2 1 ++ little 4 sizes.table) (little 4 sizes.index) 1 15 4 refl tables c.put_head_field-4.ensures.bytes c.put_head_field-4.ensures.outside in
    let out = holds_more _ _ (codes "QSRSTOR1" ++ little 2 1 ++ little 4 sizes.table ++ little 4 sizes.index) (little 4 sizes.out) 1 19 4 refl indexes c.put_head_field-5.ensures.bytes c.put_head_field-5.ensures.outside in
    let image = holds_more _ _ (codes "QSRSTOR1" ++ little 2 1 ++ little 4 sizes.table ++ little 4 sizes.index ++ little 4 sizes.out) (little 4 sizes.image) 1 23 4 refl out c.put_head_field-6.ensures.bytes c.put_head_field-6.ensures.outside in
    let spill = holds_more _ _ (codes "QSRSTOR1" ++ little 2 1 ++ little 4 sizes.table ++ little 4 sizes.index ++ little 4 sizes.out ++ little 4 sizes.image) (little 4 sizes.spill) 1 27 4 refl image c.put_head_field-7.ensures.bytes c.put_head_field-7.ensures.outside in
    is_part c.put_head_field-7.new.page (head_rest sizes) 1 30 refl (omega (arith, c.put_head_field-7.array_long)) spill
