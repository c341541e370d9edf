-- Why no AP-REP is made.
use Rattle.std.proofs.Common.{◌≡◌, ◌∙◌, ℕ, pos, List, length, arith, ap, inl, inr, refl, sym}
use Rattle.std.proofs.lemmas.List.{length-take}
use Rattle.krb_accept.proofs.Suites.{one_suite}
use Rattle.krb_accept.specs.Replies.{IsNoReply}
use Rattle.krb_accept.specs.declared.ap_rep.ReplyError.{ReplyError}
use Rattle.krb_accept.specs.declared.ap_rep.ReplyError.TheVariants as errors
use Rattle.krb_accept_rules.specs.declared.accepted.Accepted.{Accepted}
use Rattle.krb_crypto.specs.BySuite.{confounder_octets_of, key_octets_of}
use Rattle.krb_crypto.specs.Suites.{etype}
use Rattle.krb_crypto.specs.declared.cipher_suite.CipherSuite.{CipherSuite}
use Rattle.krb_crypto.specs.declared.cipher_suite.CipherSuite.TheVariants as suites
use Rattle.krb_c_calls.specs.declared.call_error.CallError.TheVariants as refusals
use Rattle.krb_c_accept.specs.Replies.{confounder_in, reply_error}

-- the confounder has the suite's length
pub confounder_fits : (suite : CipherSuite) (random : List ℕ) → length random ≡ 48 → length (confounder_in suite random) ≡ confounder_octets_of suite
confounder_fits suites.Des3CbcSha1Kd random all = omega (arith, all, length-take 8 random)
confounder_fits suites.Aes128CtsHmacSha196 random all = omega (arith, all, length-take 16 random)
confounder_fits suites.Aes128CtsHmacSha256128 random all = omega (arith, all, length-take 16 random)
confounder_fits suites.Aes256CtsHmacSha196 random all = omega (arith, all, length-take 16 random)
confounder_fits suites.Aes256CtsHmacSha384192 random all = omega (arith, all, length-take 16 random)

-- under a key of the suite no other error is met
pub fails : (a : Accepted) (suite : CipherSuite) (random confounder : List ℕ) (e : ReplyError) → length random ≡ 48
    → a.ticket.key.key_type ≡ pos (etype suite) → length a.ticket.key.key_value ≡ key_octets_of suite → confounder ≡ confounder_in suite random
    → IsNoReply a confounder e → reply_error e ≡ refusals.Memory
fails a suite random confounder errors.OutOfMemory all of_suite size is refused = refl
fails a suite random confounder errors.Key all of_suite size is (inl none) = absurd (none suite of_suite)
fails a suite random confounder errors.Key all of_suite size is (inr other) =
    absurd (other.3 (size ∙ ap key_octets_of (one_suite suite other.0 (sym of_suite ∙ other.1))))
fails a suite random confounder errors.Confounder all of_suite size is other =
    absurd (other.2 (ap length is ∙ confounder_fits suite random all ∙ ap confounder_octets_of (one_suite suite other.0 (sym of_suite ∙ other.1))))
