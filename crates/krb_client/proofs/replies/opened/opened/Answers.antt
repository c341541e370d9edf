use Rattle.std.proofs.Common.{subst}
use Rattle.std.proofs.lemmas.Int.{to_z-of_z}
use Rattle.krb_crypto.specs.declared.seal.error.PartError.TheVariants as half
use Rattle.krb_client.specs.Opened.{IsClosed}
use Rattle.krb_client.proofs.Closed.{key_refused, seal_refused, part_refused}
use Rattle.krb_client.proofs.replies.opened.opened.Goals as goal

pub returns-in-Err : goal.returns-in-Err
returns-in-Err g c = key_refused g.T.DerEncode c.args.suite.now c.args.key.now c.args.usage c.args.sealed.now c.in-Err.error c.in-Err.ensures.rejected

pub returns-in-Err-Crypto : goal.returns-in-Err-Crypto
returns-in-Err-Crypto g c =
    let fits = c.ranges.usage in
    let prepared = simp to_z-of_z at c.in-Ok.ensures.prepared in
    let told = c.in-Err-Crypto.ensures in
    let is = c.in-Err-Crypto.field-0-is in
    subst (λ suite. IsClosed g.T.DerEncode suite c.args.key.now c.args.usage c.args.sealed.now (half.Crypto c.in-Err-Crypto.error)) c.in-Ok.ensures.suite
    (seal_refused g.T.DerEncode c.in-Ok.prepared.suite c.args.key.now c.args.usage c.args.sealed.now c.in-Err-Crypto.error prepared.size
    (rw is at (told.crypto c.args.key.now c.args.usage prepared)) (rw is at (told.exact c.args.key.now c.args.usage prepared)))

pub returns-in-Err-Der : goal.returns-in-Err-Der
returns-in-Err-Der g c =
    let fits = c.ranges.usage in
    let prepared = simp to_z-of_z at c.in-Ok.ensures.prepared in
    let told = c.in-Err-Der.ensures in
    let is = c.in-Err-Der.field-0-is in
    subst (λ suite. IsClosed g.T.DerEncode suite c.args.key.now c.args.usage c.args.sealed.now (half.Der c.in-Err-Der.error)) c.in-Ok.ensures.suite
    (part_refused g.T.DerEncode c.in-Ok.prepared.suite c.args.key.now c.args.usage c.args.sealed.now c.in-Err-Der.error prepared.size
    (rw is at (told.only c.args.key.now c.args.usage prepared)) (rw is at (told.first_error c.args.key.now c.args.usage prepared)))
