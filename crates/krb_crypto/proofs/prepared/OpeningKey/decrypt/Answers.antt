use Rattle.std.proofs.Common.{◌≡◌, ap, sym, subst, ◌∙◌}
use Rattle.std.specs.Prelude.{IfOk, IfErr}
use Rattle.krb_crypto_block.specs.declared.aes.AesSize.TheVariants.{Aes128, Aes256}
use Rattle.krb_crypto_hash.specs.CryptoError.{IsMemoryOr}
use Rattle.krb_crypto_message.specs.Sealing.{IsGiven, Opens, HasNoPayload}
use Rattle.krb_crypto_message.proofs.Messages.{as_aes, as_des3, as_sha2}
use Rattle.krb_crypto.specs.BySuite.{IsSealed, confounder_octets_of, padding_octets_of}
use Rattle.krb_crypto.specs.PreparedKeys.{IsPreparedFor}
use Rattle.krb_crypto.specs.PreparedCases.{opening_keys, AreOpeningKeys}
use Rattle.krb_crypto.proofs.prepared.OpeningKey.decrypt.Goals as goal

pub returns-in-Aes128CtsHmacSha196-clause-opened : goal.returns-in-Aes128CtsHmacSha196-clause-opened
returns-in-Aes128CtsHmacSha196-clause-opened c = λ key usage prepared.
    let is = c.in-Aes128CtsHmacSha196.is in
    let k = c.in-Aes128CtsHmacSha196.keys in
    subst (λ v. IsPreparedFor key usage v → IfOk c.decrypt.result (λ payload. Opens (padding_octets_of v.suite) (IsGiven (IsSealed v.suite key usage) (confounder_octets_of v.suite) c.args.cipher_data.now) payload.items)) (sym (ap opening_keys is) ∙ c.self.view_is)
    (λ q. as_aes (λ m. IfOk c.decrypt.result (λ payload. Opens 1 (IsGiven m 16 c.args.cipher_data.now) payload.items)) k key usage q.ke q.ki c.decrypt.ensures.opened) prepared

pub returns-in-Aes128CtsHmacSha196-clause-rejected : goal.returns-in-Aes128CtsHmacSha196-clause-rejected
returns-in-Aes128CtsHmacSha196-clause-rejected c = λ key usage prepared.
    let is = c.in-Aes128CtsHmacSha196.is in
    let k = c.in-Aes128CtsHmacSha196.keys in
    subst (λ v. IsPreparedFor key usage v → IfErr c.decrypt.result (λ e. IsMemoryOr e (HasNoPayload (IsSealed v.suite key usage) (confounder_octets_of v.suite) c.args.cipher_data.now))) (sym (ap opening_keys is) ∙ c.self.view_is)
    (λ q. as_aes (λ m. IfErr c.decrypt.result (λ e. IsMemoryOr e (HasNoPayload m 16 c.args.cipher_data.now))) k key usage q.ke q.ki c.decrypt.ensures.rejected) prepared

pub returns-in-Aes256CtsHmacSha196-clause-opened : goal.returns-in-Aes256CtsHmacSha196-clause-opened
returns-in-Aes256CtsHmacSha196-clause-opened c = λ key usage prepared.
    let is = c.in-Aes256CtsHmacSha196.is in
    let k = c.in-Aes256CtsHmacSha196.keys in
    subst (λ v. IsPreparedFor key usage v → IfOk c.decrypt-in-Aes256CtsHmacSha196.result (λ payload. Opens (padding_octets_of v.suite) (IsGiven (IsSealed v.suite key usage) (confounder_octets_of v.suite) c.args.cipher_data.now) payload.items)) (sym (ap opening_keys is) ∙ c.self.view_is)
    (λ q. as_aes (λ m. IfOk c.decrypt-in-Aes256CtsHmacSha196.result (λ payload. Opens 1 (IsGiven m 16 c.args.cipher_data.now) payload.items)) k key usage q.ke q.ki c.decrypt-in-Aes256CtsHmacSha196.ensures.opened) prepared

pub returns-in-Aes256CtsHmacSha196-clause-rejected : goal.returns-in-Aes256CtsHmacSha196-clause-rejected
returns-in-Aes256CtsHmacSha196-clause-rejected c = λ key usage prepared.
    let is = c.in-Aes256CtsHmacSha196.is in
    let k = c.in-Aes256CtsHmacSha196.keys in
    subst (λ v. IsPreparedFor key usage v → IfErr c.decrypt-in-Aes256CtsHmacSha196.result (λ e. IsMemoryOr e (HasNoPayload (IsSealed v.suite key usage) (confounder_octets_of v.suite) c.args.cipher_data.now))) (sym (ap opening_keys is) ∙ c.self.view_is)
    (λ q. as_aes (λ m. IfErr c.decrypt-in-Aes256CtsHmacSha196.result (λ e. IsMemoryOr e (HasNoPayload m 16 c.args.cipher_data.now))) k key usage q.ke q.ki c.decrypt-in-Aes256CtsHmacSha196.ensures.rejected) prepared

pub returns-in-Des3CbcSha1Kd-clause-opened : goal.returns-in-Des3CbcSha1Kd-clause-opened
returns-in-Des3CbcSha1Kd-clause-opened c = λ key usage prepared.
    let is = c.in-Des3CbcSha1Kd.is in
    let k = c.in-Des3CbcSha1Kd.keys in
    subst (λ v. IsPreparedFor key usage v → IfOk c.decrypt-in-Des3CbcSha1Kd.result (λ payload. Opens (padding_octets_of v.suite) (IsGiven (IsSealed v.suite key usage) (confounder_octets_of v.suite) c.args.cipher_data.now) payload.items)) (sym (ap opening_keys is) ∙ c.self.view_is)
    (λ q. as_des3 (λ m. IfOk c.decrypt-in-Des3CbcSha1Kd.result (λ payload. Opens 8 (IsGiven m 8 c.args.cipher_data.now) payload.items)) k key usage q.ke q.ki c.decrypt-in-Des3CbcSha1Kd.ensures.opened) prepared

pub returns-in-Des3CbcSha1Kd-clause-rejected : goal.returns-in-Des3CbcSha1Kd-clause-rejected
returns-in-Des3CbcSha1Kd-clause-rejected c = λ key usage prepared.
    let is = c.in-Des3CbcSha1Kd.is in
    let k = c.in-Des3CbcSha1Kd.keys in
    subst (λ v. IsPreparedFor key usage v → IfErr c.decrypt-in-Des3CbcSha1Kd.result (λ e. IsMemoryOr e (HasNoPayload (IsSealed v.suite key usage) (confounder_octets_of v.suite) c.args.cipher_data.now))) (sym (ap opening_keys is) ∙ c.self.view_is)
    (λ q. as_des3 (λ m. IfErr c.decrypt-in-Des3CbcSha1Kd.result (λ e. IsMemoryOr e (HasNoPayload m 8 c.args.cipher_data.now))) k key usage q.ke q.ki c.decrypt-in-Des3CbcSha1Kd.ensures.rejected) prepared

pub returns-in-Aes128CtsHmacSha256128-clause-opened : goal.returns-in-Aes128CtsHmacSha256128-clause-opened
returns-in-Aes128CtsHmacSha256128-clause-opened c = λ key usage prepared.
    let is = c.in-Aes128CtsHmacSha256128.is in
    let k = c.in-Aes128CtsHmacSha256128.keys in
    let size : k.size ≡ Aes128 = subst AreOpeningKeys is c.self.invariant in
    subst (λ v. IsPreparedFor key usage v → IfOk c.decrypt-in-Aes128CtsHmacSha256128.result (λ payload. Opens (padding_octets_of v.suite) (IsGiven (IsSealed v.suite key usage) (confounder_octets_of v.suite) c.args.cipher_data.now) payload.items)) (sym (ap opening_keys is) ∙ c.self.view_is)
    (λ q. as_sha2 (λ m. IfOk c.decrypt-in-Aes128CtsHmacSha256128.result (λ payload. Opens 1 (IsGiven m 16 c.args.cipher_data.now) payload.items)) k Aes128 key usage size q.ke q.ki c.decrypt-in-Aes128CtsHmacSha256128.ensures.opened) prepared

pub returns-in-Aes128CtsHmacSha256128-clause-rejected : goal.returns-in-Aes128CtsHmacSha256128-clause-rejected
returns-in-Aes128CtsHmacSha256128-clause-rejected c = λ key usage prepared.
    let is = c.in-Aes128CtsHmacSha256128.is in
    let k = c.in-Aes128CtsHmacSha256128.keys in
    let size : k.size ≡ Aes128 = subst AreOpeningKeys is c.self.invariant in
    subst (λ v. IsPreparedFor key usage v → IfErr c.decrypt-in-Aes128CtsHmacSha256128.result (λ e. IsMemoryOr e (HasNoPayload (IsSealed v.suite key usage) (confounder_octets_of v.suite) c.args.cipher_data.now))) (sym (ap opening_keys is) ∙ c.self.view_is)
    (λ q. as_sha2 (λ m. IfErr c.decrypt-in-Aes128CtsHmacSha256128.result (λ e. IsMemoryOr e (HasNoPayload m 16 c.args.cipher_data.now))) k Aes128 key usage size q.ke q.ki c.decrypt-in-Aes128CtsHmacSha256128.ensures.rejected) prepared

pub returns-in-Aes256CtsHmacSha384192-clause-opened : goal.returns-in-Aes256CtsHmacSha384192-clause-opened
returns-in-Aes256CtsHmacSha384192-clause-opened c = λ key usage prepared.
    let is = c.in-Aes256CtsHmacSha384192.is in
    let k = c.in-Aes256CtsHmacSha384192.keys in
    let size : k.size ≡ Aes256 = subst AreOpeningKeys is c.self.invariant in
    subst (λ v. IsPreparedFor key usage v → IfOk c.decrypt-in-Aes256CtsHmacSha384192.result (λ payload. Opens (padding_octets_of v.suite) (IsGiven (IsSealed v.suite key usage) (confounder_octets_of v.suite) c.args.cipher_data.now) payload.items)) (sym (ap opening_keys is) ∙ c.self.view_is)
    (λ q. as_sha2 (λ m. IfOk c.decrypt-in-Aes256CtsHmacSha384192.result (λ payload. Opens 1 (IsGiven m 16 c.args.cipher_data.now) payload.items)) k Aes256 key usage size q.ke q.ki c.decrypt-in-Aes256CtsHmacSha384192.ensures.opened) prepared

pub returns-in-Aes256CtsHmacSha384192-clause-rejected : goal.returns-in-Aes256CtsHmacSha384192-clause-rejected
returns-in-Aes256CtsHmacSha384192-clause-rejected c = λ key usage prepared.
    let is = c.in-Aes256CtsHmacSha384192.is in
    let k = c.in-Aes256CtsHmacSha384192.keys in
    let size : k.size ≡ Aes256 = subst AreOpeningKeys is c.self.invariant in
    subst (λ v. IsPreparedFor key usage v → IfErr c.decrypt-in-Aes256CtsHmacSha384192.result (λ e. IsMemoryOr e (HasNoPayload (IsSealed v.suite key usage) (confounder_octets_of v.suite) c.args.cipher_data.now))) (sym (ap opening_keys is) ∙ c.self.view_is)
    (λ q. as_sha2 (λ m. IfErr c.decrypt-in-Aes256CtsHmacSha384192.result (λ e. IsMemoryOr e (HasNoPayload m 16 c.args.cipher_data.now))) k Aes256 key usage size q.ke q.ki c.decrypt-in-Aes256CtsHmacSha384192.ensures.rejected) prepared
