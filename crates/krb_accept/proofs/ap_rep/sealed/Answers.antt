use Rattle.std.proofs.Common.{pos, ap, sym, subst, ◌∙◌}
use Rattle.krb_crypto_message.specs.Sealing.{IsTheOne}
use Rattle.krb_crypto.specs.BySuite.{IsSealed, confounder_octets_of}
use Rattle.krb_accept.proofs.ap_rep.sealed.Goals as goal

pub seal_part-requires : goal.seal_part-requires
seal_part-requires g c = c.requires ∙ ap confounder_octets_of (sym c.in-Some.ensures.none)

pub returns-in-Ok-clause-sealed : goal.returns-in-Ok-clause-sealed
returns-in-Ok-clause-sealed g c =
    subst (λ s. IsTheOne (IsSealed s c.args.key.now (pos 12) c.args.confounder.now (g.T.DerEncode.enc c.args.value.now)) c.in-Ok.octets.items)
    c.in-Some.ensures.none (c.in-Ok.ensures.sealed c.args.key.now (pos 12) c.in-Some.ensures.some)
