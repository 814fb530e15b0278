use Rattle.std.proofs.Common.{◌≡◌, ◌+◌, ◌-◌, ◌∷◌, [], ◌++◌, length, refl, arith, ap, subst}
use Rattle.page_store.specs.Format.{behind_gate, slot_front, little}
use Rattle.qsr_layout.specs.Page.{PageHolds}
use Rattle.qsr_layout.proofs.Bytes.{holds_more, is_part}
use Rattle.page_store.proofs.records.slot_page.Goals as goal

pub returns-clause-slot : goal.returns-clause-slot
unfolding slot_front behind_gate
returns-clause-slot c =
    let gate : little 1 c.args.gate ≡ c.args.gate ∷ [] = ap (λ b. b ∷ []) (omega arith) in
    let sequence : little 1 c.args.sequence ≡ c.args.sequence ∷ [] = ap (λ b. b ∷ []) (omega arith) in
    let front = c.args.front.now in
    let first : PageHolds c.put_slot_field.new.page 0 (c.args.gate ∷ []) = subst (PageHolds c.put_slot_field.new.page 0) gate c.put_slot_field.ensures.bytes in
    let more : PageHolds c.put_slot_field-2.new.page 1 (c.args.sequence ∷ []) = subst (PageHolds c.put_slot_field-2.new.page 1) sequence c.put_slot_field-2.ensures.bytes in
    let second = holds_more _ _ (c.args.gate ∷ []) (c.args.sequence ∷ []) 0 1 1 refl first more c.put_slot_field-2.ensures.outside in
    let third = holds_more _ _ (c.args.gate ∷ c.args.sequence ∷ []) (little 4 c.args.len) 0 2 4 refl second c.put_slot_field-3.ensures.bytes c.put_slot_field-3.ensures.outside in
    let fourth = holds_more _ _ (c.args.gate ∷ c.args.sequence ∷ little 4 c.args.len) (little 2 0) 0 6 2 refl third c.put_slot_field-4.ensures.bytes c.put_slot_field-4.ensures.outside in
    let all = holds_more _ _ (c.args.gate ∷ c.args.sequence ∷ (little 4 c.args.len ++ little 2 0)) front 0 8 (length front) refl fourth c.put_body.ensures.bytes c.put_body.ensures.outside in
    is_part c.put_body.new.page (slot_front c.args.gate c.args.sequence c.args.len front) 0 (8 + length front) (omega arith) (omega (arith, c.put_body.array_long)) all

pub returns-clause-behind : goal.returns-clause-behind
unfolding behind_gate
returns-clause-behind c =
    let sequence : little 1 c.args.sequence ≡ c.args.sequence ∷ [] = ap (λ b. b ∷ []) (omega arith) in
    let front = c.args.front.now in
    let more : PageHolds c.put_slot_field-2.new.page 1 (c.args.sequence ∷ []) = subst (PageHolds c.put_slot_field-2.new.page 1) sequence c.put_slot_field-2.ensures.bytes in
    let third = holds_more _ _ (c.args.sequence ∷ []) (little 4 c.args.len) 1 2 4 refl more c.put_slot_field-3.ensures.bytes c.put_slot_field-3.ensures.outside in
    let fourth = holds_more _ _ (c.args.sequence ∷ little 4 c.args.len) (little 2 0) 1 6 2 refl third c.put_slot_field-4.ensures.bytes c.put_slot_field-4.ensures.outside in
    let all = holds_more _ _ (c.args.sequence ∷ (little 4 c.args.len ++ little 2 0)) front 1 8 (length front) refl fourth c.put_body.ensures.bytes c.put_body.ensures.outside in
    is_part c.put_body.new.page (behind_gate c.args.sequence c.args.len front) 1 (8 + length front - 1) (omega arith) (omega (arith, c.put_body.array_long)) all
