-- What was read of a MIC token, and that its octets decide it.
use Rattle.std.proofs.Common.{◌≡◌, ℕ, ◌+◌, ◌<◌, ◌^◌, List, [], ◌∷◌, ◌++◌, length, drop, take, get_or, Option, None, Some, IfSome, Result, Ok, Err, IfOk, IfErr, inl, inr, refl, sym, ap, ◌∙◌, subst, arith}
use Rattle.std.proofs.lemmas.List.{length-append}
use Rattle.std.proofs.lemmas.Nat.{from_be_bytes-to_be_bytes_8}
use Rattle.std.specs.Int.{w64, from_be_bytes, to_be_bytes}
use Rattle.std.specs.Io.KnownBytes.{Consumes}
use Rattle.krb_gss_tokens.specs.Layout.{mic_id, mic_filler, mic_header}
use Rattle.krb_gss_tokens.specs.Mic.{Mic, MicIs, mic}
use Rattle.krb_gss_tokens.specs.PerMessageRejected.{Answers, AnswersUnlessError, Begins, IsError, MicFirstError, MicIsCut, MicRejected, RejectsAsEof, RejectsAsIo}
use Rattle.krb_gss_tokens.specs.declared.error.GssApiMessageError.{GssApiMessageError}
use Rattle.krb_gss_tokens.specs.declared.error.GssApiMessageError.TheVariants as errors
use Rattle.krb_gss_tokens.proofs.Streams.{consumes_then, begun, all_read, prefix_taken}

-- four reads are a header
pub mic_header_read : (a b c d e : Option (List ℕ)) (id flags filler : List ℕ) (f n : ℕ) → id ≡ mic_id → flags ≡ f ∷ [] → filler ≡ mic_filler
    → Consumes a b id → Consumes b c flags → Consumes c d filler → Consumes d e (to_be_bytes w64 n) → Consumes a e (mic_header f n)
mic_header_read a b c d e id flags filler f n i p q s t u v =
    let number : List ℕ = to_be_bytes w64 n in
    let taken : Consumes a e (id ++ (flags ++ (filler ++ number))) = consumes_then a b e id (flags ++ (filler ++ number)) s (consumes_then b c e flags (filler ++ number) t (consumes_then c d e filler number u v)) in
    let same : id ++ (flags ++ (filler ++ number)) ≡ mic_header f n = rw (i, p, q) refl in
    subst (λ (xs : List ℕ). Consumes a e xs) same taken

-- a wrong filler after the id and the flags
pub mic_filler_read : (a b c d : Option (List ℕ)) (id flags filler : List ℕ) (f : ℕ) → id ≡ mic_id → flags ≡ f ∷ []
    → Consumes a b id → Consumes b c flags → Consumes c d filler → IfSome a (λ octets. (g : ℕ) × Begins octets (mic_id ++ (g ∷ []) ++ filler))
mic_filler_read None b c d id flags filler f i p s t u = tt
mic_filler_read (Some l) b c d id flags filler f i p s t u =
    let taken : Consumes (Some l) d (id ++ (flags ++ filler)) = consumes_then (Some l) b d id (flags ++ filler) s (consumes_then b c d flags filler t u) in
    let same : id ++ (flags ++ filler) ≡ mic_id ++ (f ∷ []) ++ filler = rw (i, p) refl in
    (f, begun (Some l) d (mic_id ++ (f ∷ []) ++ filler) (subst (λ (xs : List ℕ). Consumes (Some l) d xs) same taken))

-- an error after the header
pub mic_rest_rejected : (a b : Option (List ℕ)) (f n : ℕ) (e : GssApiMessageError) → Consumes a b (mic_header f n) → IsError e → MicRejected a e
mic_rest_rejected a b f n (errors.InvalidId x y) p h = absurd h
mic_rest_rejected a b f n (errors.InvalidMechanismOid x y) p h = absurd h
mic_rest_rejected a b f n (errors.IoError x) p h = tt
mic_rest_rejected a b f n (errors.InvalidMicFiller x) p h = absurd h
mic_rest_rejected a b f n (errors.InvalidWrapFiller x) p h = absurd h
mic_rest_rejected a b f n (errors.Asn1Error x) p h = absurd h
mic_rest_rejected None b f n errors.OutOfMemory p h = tt
mic_rest_rejected (Some l) b f n errors.OutOfMemory p h = (f, n, begun (Some l) b (mic_header f n) p)

-- a whole token was read
pub mic_read : (a b : Option (List ℕ)) (f n : ℕ) (rest : List ℕ) → Consumes a b (mic_header f n) → IfSome b (λ left. rest ≡ left)
    → IfSome a (λ octets. MicIs octets (record { flags = f; seq_num = n; payload = None; checksum = rest }))
mic_read None b f n rest p q = tt
mic_read (Some l) b f n rest p q = (all_read (Some l) b (mic_header f n) rest p q, refl)

-- octets are one token at most
pub one_mic : (octets : List ℕ) (s t : Mic) → s.seq_num < 2 ^ 64 → t.seq_num < 2 ^ 64 → MicIs octets s → MicIs octets t → s ≡ t
one_mic octets s t hs ht p q =
    let mk : ℕ → ℕ → Option (List ℕ) → List ℕ → Mic = λ f n l c. record { flags = f; seq_num = n; payload = l; checksum = c } in
    let e : mic s ≡ mic t = sym p.0 ∙ q.0 in
    let f : s.flags ≡ t.flags = ap (λ (xs : List ℕ). get_or xs 2 0) e in
    let b : to_be_bytes w64 s.seq_num ≡ to_be_bytes w64 t.seq_num = ap (λ (xs : List ℕ). take 8 (drop 8 xs)) e in
    let n : s.seq_num ≡ t.seq_num = sym (from_be_bytes-to_be_bytes_8 s.seq_num hs) ∙ ap (from_be_bytes w64) b ∙ from_be_bytes-to_be_bytes_8 t.seq_num ht in
    let l : s.payload ≡ t.payload = p.1 ∙ sym q.1 in
    let c : s.checksum ≡ t.checksum = ap (λ (xs : List ℕ). drop 16 xs) e in
    ap (λ (x : ℕ). mk x s.seq_num s.payload s.checksum) f ∙ ap (λ (x : ℕ). mk t.flags x s.payload s.checksum) n
    ∙ ap (λ (x : Option (List ℕ)). mk t.flags t.seq_num x s.checksum) l ∙ ap (λ (x : List ℕ). mk t.flags t.seq_num t.payload x) c

-- octets that begin with the id do not begin with another
mic_id_read : (octets got trailing : List ℕ) → Begins octets mic_id → length got ≡ 2 → octets ≡ got ++ trailing → got ≡ mic_id
mic_id_read octets got trailing b e p = sym (prefix_taken got trailing 2 e) ∙ ap (take 2) (sym p ∙ b.1)

-- octets that have the filler after the id and the flags have no other
mic_filler_reported : (octets got trailing : List ℕ) (f g : ℕ) → Begins octets (mic_id ++ (f ∷ []) ++ mic_filler) → length got ≡ 5 → octets ≡ (mic_id ++ (g ∷ []) ++ got) ++ trailing → got ≡ mic_filler
mic_filler_reported octets got trailing f g b e p = sym (prefix_taken got trailing 5 e) ∙ ap (λ (xs : List ℕ). take 5 (drop 3 xs)) (sym p ∙ b.1)

-- the octets begin with a whole header
headed : (octets : List ℕ) (t : Mic) → octets ≡ mic t → Begins octets (mic_id ++ (t.flags ∷ []) ++ mic_filler)
headed octets t p = (to_be_bytes w64 t.seq_num ++ t.checksum, p)

mic_not_rejected : (octets : List ℕ) (t : Mic) (e : GssApiMessageError) → MicIs octets t → MicRejected (Some octets) e → IsError e
mic_not_rejected octets t (errors.InvalidId x y) p r = absurd (r.1 (mic_id_read octets y r.3.0 (_, p.0) r.2 r.3.1))
mic_not_rejected octets t (errors.InvalidMechanismOid x y) p r = absurd r
mic_not_rejected octets t (errors.IoError x) p r = tt
mic_not_rejected octets t (errors.InvalidMicFiller x) p r = absurd (r.0 (mic_filler_reported octets x r.2.1.0 t.flags r.2.0 (headed octets t p.0) r.1 r.2.1.1))
mic_not_rejected octets t (errors.InvalidWrapFiller x) p r = absurd r
mic_not_rejected octets t (errors.Asn1Error x) p r = absurd r
mic_not_rejected octets t errors.OutOfMemory p r = tt

-- where the octets are a token, it is the result, but for an error
pub only_mic : (known : Option (List ℕ)) (r : Result Mic GssApiMessageError) → IfOk r (λ t. IfSome known (λ octets. MicIs octets t)) → IfOk r (λ t. t.seq_num < 2 ^ 64) → IfErr r (MicRejected known)
    → IfSome known (λ octets. (t : Mic) → t.seq_num < 2 ^ 64 → MicIs octets t → AnswersUnlessError r t)
only_mic None r x y z = tt
only_mic (Some octets) (Ok s) x y z = λ t h p. one_mic octets s t y h x p
only_mic (Some octets) (Err e) x y z = λ t h p. mic_not_rejected octets t e p z

-- fewer octets than a header has
short : (octets : List ℕ) → MicIsCut octets → length octets < 16
short octets (inl h) = omega arith
short octets (inr (inl h)) = let k : length octets < 8 = h.1 in omega arith
short octets (inr (inr h)) = h.1

mic_cut_rejected : (octets : List ℕ) (e : GssApiMessageError) → MicIsCut octets → MicRejected (Some octets) e → RejectsAsIo {A = Mic} (Err e)
mic_cut_rejected octets (errors.InvalidId x y) (inl h) r =
    let e : length octets ≡ length y + length r.3.0 = ap length r.3.1 ∙ length-append y r.3.0 in
    let k : length y ≡ 2 = r.2 in
    absurd (omega arith)
mic_cut_rejected octets (errors.InvalidId x y) (inr (inl h)) r = absurd (r.1 (mic_id_read octets y r.3.0 h.0 r.2 r.3.1))
mic_cut_rejected octets (errors.InvalidId x y) (inr (inr h)) r = absurd (r.1 (mic_id_read octets y r.3.0 (_, h.0.1.1) r.2 r.3.1))
mic_cut_rejected octets (errors.InvalidMechanismOid x y) h r = absurd r
mic_cut_rejected octets (errors.IoError x) h r = tt
mic_cut_rejected octets (errors.InvalidMicFiller x) (inl h) r =
    let e : length octets ≡ length (mic_id ++ (r.2.0 ∷ []) ++ x) + length r.2.1.0 = ap length r.2.1.1 ∙ length-append (mic_id ++ (r.2.0 ∷ []) ++ x) r.2.1.0 in
    let f : length (mic_id ++ (r.2.0 ∷ []) ++ x) ≡ 3 + length x = length-append (mic_id ++ (r.2.0 ∷ [])) x in
    absurd (omega arith)
mic_cut_rejected octets (errors.InvalidMicFiller x) (inr (inl h)) r =
    let e : length octets ≡ length (mic_id ++ (r.2.0 ∷ []) ++ x) + length r.2.1.0 = ap length r.2.1.1 ∙ length-append (mic_id ++ (r.2.0 ∷ []) ++ x) r.2.1.0 in
    let f : length (mic_id ++ (r.2.0 ∷ []) ++ x) ≡ 3 + length x = length-append (mic_id ++ (r.2.0 ∷ [])) x in
    let k : length x ≡ 5 = r.1 in
    let m : length octets < 8 = h.1 in
    absurd (omega arith)
mic_cut_rejected octets (errors.InvalidMicFiller x) (inr (inr h)) r = absurd (r.0 (mic_filler_reported octets x r.2.1.0 h.0.0 r.2.0 h.0.1 r.1 r.2.1.1))
mic_cut_rejected octets (errors.InvalidWrapFiller x) h r = absurd r
mic_cut_rejected octets (errors.Asn1Error x) h r = absurd r
mic_cut_rejected octets errors.OutOfMemory h r =
    let e : length octets ≡ 16 + length r.2.0 = ap length r.2.1 ∙ length-append (mic_header r.0 r.1) r.2.0 in
    let k : length octets < 16 = short octets h in
    absurd (omega arith)

-- where a field is cut short, the result is an `IoError`
pub cut_mic : (known : Option (List ℕ)) (r : Result Mic GssApiMessageError) → IfOk r (λ t. IfSome known (λ octets. MicIs octets t)) → IfErr r (MicRejected known)
    → IfSome known (λ octets. MicIsCut octets → RejectsAsIo r)
cut_mic None r x y = tt
cut_mic (Some octets) (Ok s) x y = λ h.
    let e : length octets ≡ 16 + length s.checksum = ap length x.0 ∙ length-append (mic_header s.flags s.seq_num) s.checksum in
    let k : length octets < 16 = short octets h in
    absurd (omega arith)
cut_mic (Some octets) (Err e) x y = λ h. mic_cut_rejected octets e h y

-- octets that are a token are not cut short
whole : (octets : List ℕ) (t : Mic) → MicIs octets t → MicIsCut octets → ⊥
whole octets t p h =
    let e : length octets ≡ 16 + length t.checksum = ap length p.0 ∙ length-append (mic_header t.flags t.seq_num) t.checksum in
    let k : length octets < 16 = short octets h in
    omega arith

mic_slice_not_rejected : (octets : List ℕ) (t : Mic) (e : GssApiMessageError) → MicIs octets t → MicFirstError octets e → e ≡ errors.OutOfMemory
mic_slice_not_rejected octets t (errors.InvalidId x y) p r = absurd (mic_not_rejected octets t (errors.InvalidId x y) p r)
mic_slice_not_rejected octets t (errors.InvalidMechanismOid x y) p r = absurd r
mic_slice_not_rejected octets t (errors.IoError x) p r = absurd (whole octets t p r.1)
mic_slice_not_rejected octets t (errors.InvalidMicFiller x) p r = absurd (mic_not_rejected octets t (errors.InvalidMicFiller x) p r)
mic_slice_not_rejected octets t (errors.InvalidWrapFiller x) p r = absurd r
mic_slice_not_rejected octets t (errors.Asn1Error x) p r = absurd r
mic_slice_not_rejected octets t errors.OutOfMemory p r = refl

-- where the octets of a slice are a token, it is the result, unless memory ran out
pub only_mic_slice : (octets : List ℕ) (r : Result Mic GssApiMessageError) → IfOk r (MicIs octets) → IfOk r (λ t. t.seq_num < 2 ^ 64) → IfErr r (MicFirstError octets)
    → (t : Mic) → t.seq_num < 2 ^ 64 → MicIs octets t → Answers r t
only_mic_slice octets (Ok s) x y z t h p = one_mic octets s t y h x p
only_mic_slice octets (Err e) x y z t h p = mic_slice_not_rejected octets t e p z

-- where a field of a slice is cut short, the result is an early end
pub cut_mic_slice : (octets : List ℕ) (r : Result Mic GssApiMessageError) → IfOk r (MicIs octets) → IfErr r (MicFirstError octets) → MicIsCut octets → RejectsAsEof r
cut_mic_slice octets (Ok s) x y h = absurd (whole octets s x h)
cut_mic_slice octets (Err (errors.InvalidId v w)) x y h = absurd (mic_cut_rejected octets (errors.InvalidId v w) h y)
cut_mic_slice octets (Err (errors.InvalidMechanismOid v w)) x y h = absurd y
cut_mic_slice octets (Err (errors.IoError v)) x y h = y.0
cut_mic_slice octets (Err (errors.InvalidMicFiller v)) x y h = absurd (mic_cut_rejected octets (errors.InvalidMicFiller v) h y)
cut_mic_slice octets (Err (errors.InvalidWrapFiller v)) x y h = absurd y
cut_mic_slice octets (Err (errors.Asn1Error v)) x y h = absurd y
cut_mic_slice octets (Err errors.OutOfMemory) x y h = absurd (mic_cut_rejected octets errors.OutOfMemory h y)
