use Rattle.krb_c_calls.specs.Calls.{IsEncryption, RefusesEncryption}
use Rattle.krb_c_calls.proofs.Answered.{answered, handed_out}
use Rattle.krb_c_calls.proofs.kept.encrypt_kept.Goals as goal

pub returns-clause-kept : goal.returns-clause-kept
returns-clause-kept c key usage h =
    answered c.encrypted_kept.result (λ v. v.items) (IsEncryption c.args.kept.now.etype key usage c.args.confounder.now c.args.payload.now)
    (RefusesEncryption c.args.kept.now.etype key c.args.confounder.now) _ _ _ _ (c.encrypted_kept.ensures.kept key usage h) c.hand_out.ensures

pub returns-clause-handed : goal.returns-clause-handed
returns-clause-handed c = handed_out c.encrypted_kept.result (λ v. v.items) _ _ _ _ c.hand_out.ensures
