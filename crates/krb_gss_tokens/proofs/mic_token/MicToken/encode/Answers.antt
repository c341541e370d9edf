use Rattle.std.proofs.Common.{ap, subst, ℕ, List, OnOk, IfErr}
use Rattle.std.specs.Io.KnownBytes.{Appends}
use Rattle.krb_gss_tokens.specs.Mic.{Mic}
use Rattle.krb_gss_tokens.specs.PerMessageRejected.{IsUnwritten}
use Rattle.krb_gss_tokens.proofs.Streams.{joined_parts}
use Rattle.krb_gss_tokens.proofs.mic_token.MicToken.encode.Goals as goal

pub returns-clause-ok : goal.returns-clause-ok
returns-clause-ok g c =
    let e = joined_parts _ _ _ _ c.header.ensures (ap (λ (t : Mic). t.checksum) c.self.view_is) in
    subst (λ (xs : List ℕ). OnOk c.write_joined.result (Appends (g.W.Write.contents c.args.to.now) (g.W.Write.contents c.write_joined.new.to) xs)) e c.write_joined.ensures.ok

pub returns-clause-unwritten : goal.returns-clause-unwritten
returns-clause-unwritten g c =
    let e = joined_parts _ _ _ _ c.header.ensures (ap (λ (t : Mic). t.checksum) c.self.view_is) in
    subst (λ (xs : List ℕ). IfErr c.write_joined.result (IsUnwritten g.W.Write.contents c.args.to.now c.write_joined.new.to xs)) e c.write_joined.ensures.unwritten
