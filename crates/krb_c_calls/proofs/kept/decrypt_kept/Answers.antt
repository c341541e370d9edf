use Rattle.krb_c_calls.specs.Calls.{IsDecryption, RefusesDecryption}
use Rattle.krb_c_calls.proofs.Answered.{answered, handed_out}
use Rattle.krb_c_calls.proofs.kept.decrypt_kept.Goals as goal

pub returns-clause-kept : goal.returns-clause-kept
returns-clause-kept c key usage h =
    answered c.decrypted_kept.result (λ v. v.items) (IsDecryption c.args.kept.now.etype key usage c.args.sealed.now)
    (RefusesDecryption c.args.kept.now.etype key usage c.args.sealed.now) _ _ _ _ (c.decrypted_kept.ensures.kept key usage h) c.hand_out.ensures

pub returns-clause-handed : goal.returns-clause-handed
returns-clause-handed c = handed_out c.decrypted_kept.result (λ v. v.items) _ _ _ _ c.hand_out.ensures
