-- `read_field` meets its contract: a law of fields answers each return.
use mathlib.Core.Path.{◌≡◌, sym, ◌∙◌}
use mathlib.Core.Bool.{true}
use lib.ListN.{get_or}
use Rattle.lists.specs.Lists.{member}
use Rattle.lists.proofs.Below.{below_of}
use Rattle.record_parts.specs.Fields.{length_asked}
use Rattle.record_parts.proofs.Fields.{member_any, field_head, field_tag, field_length, field_cut, field_found}
use Rattle.record_parts.proofs.field.read_field.Goals as goal

pub returns-then-input-at-lt-HEAD_SIZE : goal.returns-then-input-at-lt-HEAD_SIZE
returns-then-input-at-lt-HEAD_SIZE c =
    field_head c.args.input.now c.args.tags.now (length_asked c.args.asked) c.args.at _ c.at.ensures c.requires.0 c.if-input-at-lt-HEAD_SIZE.true

pub returns-then-not-contains : goal.returns-then-not-contains
returns-then-not-contains c =
    field_tag c.args.input.now c.args.tags.now (length_asked c.args.asked) c.args.at c.requires.0 c.if-input-at-lt-HEAD_SIZE.false _ c.at-then-not-contains.ensures
    (sym (c.contains.ensures.value ∙ member_any _ c.args.tags.now) ∙ c.if-not-contains.true)

pub returns-then-not-is_length : goal.returns-then-not-is_length
returns-then-not-is_length c =
    let tag_good : member (get_or c.args.input.now c.args.at 0) c.args.tags.now ≡ true = sym (c.contains.ensures.value ∙ member_any _ c.args.tags.now) ∙ c.if-not-contains.false in
    field_length c.args.input.now c.args.tags.now (length_asked c.args.asked) c.args.at c.requires.0 c.if-input-at-lt-HEAD_SIZE.false
    tag_good _ c.get_bytes-n.ensures.0 _ c.at-then-not-is_length.ensures (sym c.is_length.ensures ∙ c.if-not-is_length.true)

pub returns-then-input-from : goal.returns-then-input-from
returns-then-input-from c =
    let tag_good : member (get_or c.args.input.now c.args.at 0) c.args.tags.now ≡ true = sym (c.contains.ensures.value ∙ member_any _ c.args.tags.now) ∙ c.if-not-contains.false in
    field_cut c.args.input.now c.args.tags.now (length_asked c.args.asked) c.args.at c.requires.0 c.if-input-at-lt-HEAD_SIZE.false
    tag_good _ c.get_bytes-n.ensures.0 (sym c.is_length.ensures ∙ c.if-not-is_length.false) _ c.at-then-input-from.ensures c.if-input-from.true

pub returns : goal.returns
returns c =
    let tag_good : member (get_or c.args.input.now c.args.at 0) c.args.tags.now ≡ true = sym (c.contains.ensures.value ∙ member_any _ c.args.tags.now) ∙ c.if-not-contains.false in
    field_found c.args.input.now c.args.tags.now (length_asked c.args.asked) c.args.at c.requires.0 c.if-input-at-lt-HEAD_SIZE.false
    tag_good _ c.get_bytes-n.ensures.0 (sym c.is_length.ensures ∙ c.if-not-is_length.false)
    (below_of 256 c.args.input.now (λ i. (c.shared_slice_known-1.given i).fits)) c.if-input-from.false
