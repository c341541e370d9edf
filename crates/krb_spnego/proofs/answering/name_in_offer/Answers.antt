use Rattle.std.proofs.Common.{◌≡◌, ◌∙◌, inl, inr, refl, sym}
use Rattle.krb_spnego.proofs.Refusals.{ok_map}
use Rattle.krb_spnego.specs.declared.error.ReadError.{ReadError}
use Rattle.krb_spnego.specs.declared.error.ReadError.TheVariants as errors
use Rattle.krb_spnego.proofs.answering.name_in_offer.Goals as goal

pub returns-in-Ok : goal.returns-in-Ok
returns-in-Ok c =
    ok_map c.name_of.result
    (λ name is. inr (c.in-Ok.proposal, (c.in-Ok.ensures.read, rw (sym c.deref.ensures.value) is))) c.name_of.ensures

not_memory : (let a : ReadError = errors.NotSpnego in a ≡ errors.OutOfMemory) → ⊥
not_memory e = cc

pub returns-in-Err-NotSpnego : goal.returns-in-Err-NotSpnego
returns-in-Err-NotSpnego c =
    inl (c.in-Err-NotSpnego.field-0, (c.in-Err-NotSpnego.ensures.refused, (λ e. not_memory (sym c.in-Err-NotSpnego.field-0-is ∙ e), refl)))
