-- One token has one number, and is not refused.
use Rattle.std.proofs.Common.{◌≡◌, ℕ, ◌<◌, ◌^◌, true, false, List, ◌++◌, take, drop, get_or, None, Result, Ok, Err, IfOk, IfErr, MatchResult, refl, sym, ap, subst, ◌∙◌}
use Rattle.krb_crypto.specs.BySuite.{checksum_suite_of, sum_of}
use Rattle.krb_crypto.specs.declared.checksum_suite.ChecksumSuite.{ChecksumSuite}
use Rattle.krb_gss_tokens.proofs.Mic.{one_mic, only_mic_slice}
use Rattle.krb_gss_tokens.specs.Layout.{mic_header}
use Rattle.krb_gss_tokens.specs.Mic.{Mic, MicIs}
use Rattle.krb_gss_per_message.specs.Keys.{Key, sign_usage_of, IsSentBy, IsUnderSubkeyOf, AreFlagsOf}
use Rattle.krb_gss_per_message.specs.Mic.{IsMicOf, RefusesMic, mic_sum}
use Rattle.krb_gss_per_message.specs.declared.error.ProtectionError.{ProtectionError}
use Rattle.krb_gss_per_message.specs.declared.error.ProtectionError.TheVariants as errors
use Rattle.krb_gss_per_message.proofs.FlagBits.{sealed_once, sender_once}

-- the checksum that is made and compared is the token's
pub mic_sum_as : (key : Key) (suite : ChecksumSuite) (header message : List ℕ) (flags number : ℕ) → suite ≡ checksum_suite_of key.suite → header ≡ mic_header flags number
    → sum_of suite key.octets (sign_usage_of key.sender) (message ++ header) ≡ mic_sum key flags number message
mic_sum_as key suite header message flags number s h =
    ap (λ (x : ChecksumSuite). sum_of x key.octets (sign_usage_of key.sender) (message ++ header)) s
    ∙ ap (λ (xs : List ℕ). sum_of (checksum_suite_of key.suite) key.octets (sign_usage_of key.sender) (message ++ xs)) h

-- the flags of a header, and the whole of it
flags_once : (token rest other : List ℕ) (f g m n : ℕ) → token ≡ mic_header f m ++ rest → token ≡ mic_header g n ++ other → f ≡ g
flags_once token rest other f g m n a b = ap (λ (xs : List ℕ). get_or xs 2 0) (sym a ∙ b)

header_once : (token rest other : List ℕ) (f g m n : ℕ) → token ≡ mic_header f m ++ rest → token ≡ mic_header g n ++ other → mic_header f m ≡ mic_header g n
header_once token rest other f g m n a b = ap (take 16) (sym a ∙ b)

rest_once : (token rest other : List ℕ) (f g m n : ℕ) → token ≡ mic_header f m ++ rest → token ≡ mic_header g n ++ other → rest ≡ other
rest_once token rest other f g m n a b = ap (drop 16) (sym a ∙ b)

-- the token as one of the layer below
as_mic : ℕ → ℕ → List ℕ → Mic
as_mic f n rest = record { flags = f; seq_num = n; payload = None; checksum = rest }

pub number_once : (key : Key) (message token : List ℕ) (m n : ℕ) → IsMicOf key message token m → IsMicOf key message token n → m ≡ n
unfolding as_mic
number_once key message token m n a b =
    ap (λ (t : Mic). t.seq_num)
    (one_mic token (as_mic a.1.0 m (mic_sum key a.1.0 m message)) (as_mic b.1.0 n (mic_sum key b.1.0 n message)) a.0 b.0 (a.1.2, refl) (b.1.2, refl))

pub mic_kept : (key : Key) (message token : List ℕ) (n : ℕ) (e : ProtectionError) → IsMicOf key message token n → RefusesMic key message token e → e ≡ errors.OutOfMemory
unfolding as_mic
mic_kept key message token n errors.OutOfMemory is refuses = refl
mic_kept key message token n (errors.Token e) is refuses =
    absurd (refuses.1 (only_mic_slice token (Err e) tt tt refuses.0 (as_mic is.1.0 n (mic_sum key is.1.0 n message)) is.0 (is.1.2, refl)))
mic_kept key message token n errors.Direction is refuses =
    absurd (refuses.4 (subst (IsSentBy key) (flags_once token _ _ _ _ _ _ is.1.2 refuses.3) is.1.1.sender))
mic_kept key message token n errors.Subkey is refuses =
    absurd (refuses.5 (subst (IsUnderSubkeyOf key) (flags_once token _ _ _ _ _ _ is.1.2 refuses.3) is.1.1.subkey))
mic_kept key message token n errors.Sealed is refuses =
    let wrong : false ≡ true = sealed_once key false true refuses.0 (subst (AreFlagsOf key false) (flags_once token _ _ _ _ _ _ is.1.2 refuses.3) is.1.1) refuses.4 in
    cc
mic_kept key message token n errors.Checksum is refuses =
    let header = header_once token _ _ _ _ _ _ is.1.2 refuses.3 in
    let sum = ap (λ (xs : List ℕ). sum_of (checksum_suite_of key.suite) key.octets (sign_usage_of key.sender) (message ++ xs)) header in
    absurd (refuses.5 (sym (rest_once token _ _ _ _ _ _ is.1.2 refuses.3) ∙ sum))
mic_kept key message token n (errors.Opening e) is refuses = absurd refuses
mic_kept key message token n errors.SealedHeader is refuses = absurd refuses

-- what holds is returned
pub only_number : (key : Key) (message token : List ℕ) (r : Result ℕ ProtectionError) → IfOk r (IsMicOf key message token) → IfErr r (RefusesMic key message token)
    → (number : ℕ) → IsMicOf key message token number → MatchResult r (λ n. n ≡ number) (λ e. e ≡ errors.OutOfMemory)
only_number key message token (Ok n) is refuses number other = number_once key message token n number is other
only_number key message token (Err e) is refuses number other = mic_kept key message token number e other refuses

-- the token that was read holds
pub mic_holds : (key : Key) (message token : List ℕ) (t : Mic) → MicIs token t → t.seq_num < 2 ^ 64 → AreFlagsOf key false t.flags
    → t.checksum ≡ mic_sum key t.flags t.seq_num message → IsMicOf key message token t.seq_num
mic_holds key message token t is fits are sum = (fits, (t.flags, are, is.0 ∙ ap (λ (xs : List ℕ). mic_header t.flags t.seq_num ++ xs) sum))

-- the token that was made
pub mic_made : (key : Key) (message token checksum : List ℕ) (flags other number : ℕ) → token ≡ mic_header flags number ++ checksum → flags ≡ other
    → checksum ≡ mic_sum key other number message → token ≡ mic_header other number ++ mic_sum key other number message
mic_made key message token checksum flags other number made same sum =
    made ∙ ap (λ (x : ℕ). mic_header x number ++ checksum) same ∙ ap (λ (xs : List ℕ). mic_header other number ++ xs) sum

-- a token has one sender
pub mic_sender : (key other : Key) (message other_message token : List ℕ) (m n : ℕ) → IsMicOf key message token m → IsMicOf other other_message token n → key.sender ≡ other.sender
mic_sender key other message other_message token m n is also =
    sender_once key other false false also.1.0 (subst (AreFlagsOf key false) (flags_once token _ _ _ _ _ _ is.1.2 also.1.2) is.1.1) also.1.1
