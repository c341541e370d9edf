use Rattle.std.proofs.Common.{◌≡◌, length, rules}
use Rattle.std.proofs.lemmas.Result.{err_from_is_err_and}
use Rattle.krb_pac.proofs.Calls.{fewer_trailing}
use Rattle.krb_pac.proofs.EntryRead.{entry_found, entry_passed, only_entry}
use Rattle.krb_pac.proofs.info.PacInfoBuffer.deserialize.Goals as goal

pub returns-clause-found : goal.returns-clause-found
returns-clause-found g c =
    let long : length c.read_exact.new.buffer ≡ 12 = search rules in
    entry_found _ _ _ _ _ _ _ c.of_type.ensures long c.in_ok-number.ensures.bytes c.in_ok-ul_type.ensures.0 c.in_ok-read_exact.ensures.octets

pub returns-clause-trailing : goal.returns-clause-trailing
returns-clause-trailing g c =
    let long : length c.read_exact.new.buffer ≡ 12 = search rules in
    entry_passed _ _ _ _ _ _ long c.in_ok-number.ensures.bytes c.in_ok-ul_type.ensures.0 c.in_ok-read_exact.ensures.octets

pub returns-clause-only : goal.returns-clause-only
returns-clause-only g c =
    let long : length c.read_exact.new.buffer ≡ 12 = search rules in
    only_entry _ _ _ _ _ _ _ c.of_type.ensures long c.in_ok-number.ensures.bytes c.in_ok-ul_type.ensures.0 c.in_ok-read_exact.ensures.octets

pub returns-in_err-read_exact-clause-rejected : goal.returns-in_err-read_exact-clause-rejected
returns-in_err-read_exact-clause-rejected g c =
    let p = err_from_is_err_and c.from_residual-in_err-read_exact.result c.from_residual-in_err-read_exact.ensures.1 in
    let short = fewer_trailing 4 12 _ _ _ _ c.in_ok-number.ensures.bytes c.in_err-read_exact.ensures.fewer in
    rw (p.1, p.2) (c.in_err-read_exact.ensures.lasting, short)
