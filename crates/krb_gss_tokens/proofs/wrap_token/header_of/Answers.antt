use Rattle.std.proofs.Common.{◌≡◌, ◌≤◌, length, drop, take, rules, arith}
use Rattle.krb_gss_tokens.proofs.Slices.{wrap_begins}
use Rattle.krb_gss_tokens.proofs.wrap_token.header_of.Goals as goal

pub returns-clause-ok : goal.returns-clause-ok
returns-clause-ok c =
    let long : 16 ≤ length c.args.octets.now = omega arith in
    let number : c.copy_from_slice.new.self ≡ take 8 (drop 8 c.args.octets.now) = search rules in
    wrap_begins _ _ _ _ _ _ long c.in_ok-flags.ensures.ok c.big_u16-ec.ensures c.big_u16-rrc.ensures c.big_u64.ensures number
