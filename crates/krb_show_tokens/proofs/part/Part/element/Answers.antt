use Rattle.std.proofs.Common.{sym, ◌∙◌}
use Rattle.krb_show_tokens.proofs.FrontElements.{content_fits, element_found, no_element, none_in_nothing}
use Rattle.krb_show_tokens.proofs.part.Part.element.Goals as goal

pub returns-then-is_empty : goal.returns-then-is_empty
returns-then-is_empty c = none_in_nothing c.args.self.now.octets.now (sym c.is_empty.ensures ∙ c.if-is_empty.true)

pub returns-in_default : goal.returns-in_default
returns-in_default c = no_element c.args.self.now.octets.now c.in_default.field-0 c.in_default.ensures.rejected c.in_default.ensures.heapless (search)

pub overflow_sub-taken : goal.overflow_sub-taken
overflow_sub-taken c = content_fits c.args.self.now.octets.now c.in-Ok.octets.now _ c.in-Ok.taken c.in-Ok.ensures.found

pub returns : goal.returns
returns c = rw (c.split_at.ensures.back) (element_found c.args.self.now.octets.now c.in-Ok.octets.now _ c.in-Ok.taken _ _ _ c.in-Ok.ensures.found c.saturating_add.ensures c.saturating_add-2.ensures)
