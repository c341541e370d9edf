use Rattle.std.proofs.Common.{◌≡◌, ap, sym, subst, ◌∙◌}
use Rattle.std.specs.Prelude.{IfOk}
use Rattle.krb_crypto_block.specs.declared.aes.AesSize.TheVariants.{Aes128, Aes256}
use Rattle.krb_crypto_message.specs.Sealing.{IsTheOne}
use Rattle.krb_crypto_message.proofs.Messages.{as_aes, as_des3, as_sha2}
use Rattle.krb_crypto.specs.BySuite.{IsSealed}
use Rattle.krb_crypto.specs.PreparedKeys.{IsPreparedFor}
use Rattle.krb_crypto.specs.PreparedCases.{sealing_keys, AreSealingKeys}
use Rattle.krb_crypto.proofs.prepared.SealingKey.encrypt.Goals as goal

pub returns-in-Aes128CtsHmacSha196-clause-sealed : goal.returns-in-Aes128CtsHmacSha196-clause-sealed
returns-in-Aes128CtsHmacSha196-clause-sealed c = λ key usage prepared.
    let is = c.in-Aes128CtsHmacSha196.is in
    let k = c.in-Aes128CtsHmacSha196.keys in
    subst (λ v. IsPreparedFor key usage v → IfOk c.encrypt.result (λ octets. IsTheOne (IsSealed v.suite key usage c.args.confounder.now c.args.payload.now) octets.items)) (sym (ap sealing_keys is) ∙ c.self.view_is)
    (λ q. as_aes (λ m. IfOk c.encrypt.result (λ octets. IsTheOne (m c.args.confounder.now c.args.payload.now) octets.items)) k key usage q.ke q.ki (rw c.confounder_of.ensures at c.encrypt.ensures.sealed)) prepared

pub returns-in-Aes256CtsHmacSha196-clause-sealed : goal.returns-in-Aes256CtsHmacSha196-clause-sealed
returns-in-Aes256CtsHmacSha196-clause-sealed c = λ key usage prepared.
    let is = c.in-Aes256CtsHmacSha196.is in
    let k = c.in-Aes256CtsHmacSha196.keys in
    subst (λ v. IsPreparedFor key usage v → IfOk c.encrypt-in-Aes256CtsHmacSha196.result (λ octets. IsTheOne (IsSealed v.suite key usage c.args.confounder.now c.args.payload.now) octets.items)) (sym (ap sealing_keys is) ∙ c.self.view_is)
    (λ q. as_aes (λ m. IfOk c.encrypt-in-Aes256CtsHmacSha196.result (λ octets. IsTheOne (m c.args.confounder.now c.args.payload.now) octets.items)) k key usage q.ke q.ki (rw c.confounder_of-in-Aes256CtsHmacSha196.ensures at c.encrypt-in-Aes256CtsHmacSha196.ensures.sealed)) prepared

pub returns-in-Des3CbcSha1Kd-clause-sealed : goal.returns-in-Des3CbcSha1Kd-clause-sealed
returns-in-Des3CbcSha1Kd-clause-sealed c = λ key usage prepared.
    let is = c.in-Des3CbcSha1Kd.is in
    let k = c.in-Des3CbcSha1Kd.keys in
    subst (λ v. IsPreparedFor key usage v → IfOk c.encrypt-in-Des3CbcSha1Kd.result (λ octets. IsTheOne (IsSealed v.suite key usage c.args.confounder.now c.args.payload.now) octets.items)) (sym (ap sealing_keys is) ∙ c.self.view_is)
    (λ q. as_des3 (λ m. IfOk c.encrypt-in-Des3CbcSha1Kd.result (λ octets. IsTheOne (m c.args.confounder.now c.args.payload.now) octets.items)) k key usage q.ke q.ki (rw c.confounder_of-in-Des3CbcSha1Kd.ensures at c.encrypt-in-Des3CbcSha1Kd.ensures.sealed)) prepared

pub returns-in-Aes128CtsHmacSha256128-clause-sealed : goal.returns-in-Aes128CtsHmacSha256128-clause-sealed
returns-in-Aes128CtsHmacSha256128-clause-sealed c = λ key usage prepared.
    let is = c.in-Aes128CtsHmacSha256128.is in
    let k = c.in-Aes128CtsHmacSha256128.keys in
    let size : k.size ≡ Aes128 = subst AreSealingKeys is c.self.invariant in
    subst (λ v. IsPreparedFor key usage v → IfOk c.encrypt-in-Aes128CtsHmacSha256128.result (λ octets. IsTheOne (IsSealed v.suite key usage c.args.confounder.now c.args.payload.now) octets.items)) (sym (ap sealing_keys is) ∙ c.self.view_is)
    (λ q. as_sha2 (λ m. IfOk c.encrypt-in-Aes128CtsHmacSha256128.result (λ octets. IsTheOne (m c.args.confounder.now c.args.payload.now) octets.items)) k Aes128 key usage size q.ke q.ki (rw c.confounder_of-in-Aes128CtsHmacSha256128.ensures at c.encrypt-in-Aes128CtsHmacSha256128.ensures.sealed)) prepared

pub returns-in-Aes256CtsHmacSha384192-clause-sealed : goal.returns-in-Aes256CtsHmacSha384192-clause-sealed
returns-in-Aes256CtsHmacSha384192-clause-sealed c = λ key usage prepared.
    let is = c.in-Aes256CtsHmacSha384192.is in
    let k = c.in-Aes256CtsHmacSha384192.keys in
    let size : k.size ≡ Aes256 = subst AreSealingKeys is c.self.invariant in
    subst (λ v. IsPreparedFor key usage v → IfOk c.encrypt-in-Aes256CtsHmacSha384192.result (λ octets. IsTheOne (IsSealed v.suite key usage c.args.confounder.now c.args.payload.now) octets.items)) (sym (ap sealing_keys is) ∙ c.self.view_is)
    (λ q. as_sha2 (λ m. IfOk c.encrypt-in-Aes256CtsHmacSha384192.result (λ octets. IsTheOne (m c.args.confounder.now c.args.payload.now) octets.items)) k Aes256 key usage size q.ke q.ki (rw c.confounder_of-in-Aes256CtsHmacSha384192.ensures at c.encrypt-in-Aes256CtsHmacSha384192.ensures.sealed)) prepared
