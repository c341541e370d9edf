use Rattle.std.proofs.Common.{subst}
use Rattle.std.proofs.lemmas.Int.{to_z-of_z}
use Rattle.std.proofs.lemmas.Result.{err_from_is_err_and}
use Rattle.krb_c_calls.specs.Statuses.{crypto_status, der_status}
use Rattle.krb_c_calls.specs.Parts.{RefusesPart}
use Rattle.krb_c_calls.proofs.Refused.{key_refused, seal_refused, part_refused}
use Rattle.krb_c_calls.proofs.parts.parts.part_under.Goals as goal

pub returns-in_err-prepared : goal.returns-in_err-prepared
returns-in_err-prepared g c =
    let p = err_from_is_err_and c.from_residual.result c.from_residual.ensures.1 in
    rw (p.1, p.2) (key_refused g.T.DerEncode c.args.suite.now c.args.key.now c.args.usage c.args.sealed.now c.in_err-prepared.field-0.0 c.in_err-prepared.ensures.rejected)

pub returns-in-Err-Crypto : goal.returns-in-Err-Crypto
returns-in-Err-Crypto g c =
    let fits = c.ranges.usage in
    let prepared = simp to_z-of_z at c.in_ok-prepared.ensures.prepared in
    let told = c.in-Err-Crypto.ensures in
    let is = c.in-Err-Crypto.field-0-is in
    rw c.from.ensures
    (subst (λ suite. RefusesPart g.T.DerEncode suite c.args.key.now c.args.usage c.args.sealed.now (crypto_status c.in-Err-Crypto.error)) c.in_ok-prepared.ensures.suite
    (seal_refused g.T.DerEncode c.in_ok-prepared.prepared.suite c.args.key.now c.args.usage c.args.sealed.now c.in-Err-Crypto.error prepared.size
    (rw is at (told.crypto c.args.key.now c.args.usage prepared)) (rw is at (told.exact c.args.key.now c.args.usage prepared))))

pub returns-in-Err-Der : goal.returns-in-Err-Der
returns-in-Err-Der g c =
    let fits = c.ranges.usage in
    let prepared = simp to_z-of_z at c.in_ok-prepared.ensures.prepared in
    let told = c.in-Err-Der.ensures in
    let is = c.in-Err-Der.field-0-is in
    rw c.from-in-Err-Der.ensures
    (subst (λ suite. RefusesPart g.T.DerEncode suite c.args.key.now c.args.usage c.args.sealed.now (der_status c.in-Err-Der.error)) c.in_ok-prepared.ensures.suite
    (part_refused g.T.DerEncode c.in_ok-prepared.prepared.suite c.args.key.now c.args.usage c.args.sealed.now c.in-Err-Der.error prepared.size
    (rw is at (told.only c.args.key.now c.args.usage prepared)) (rw is at (told.first_error c.args.key.now c.args.usage prepared))))
