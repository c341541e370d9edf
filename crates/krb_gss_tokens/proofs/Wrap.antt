-- What was read of a Wrap token, and that its octets decide it.
use Rattle.std.proofs.Common.{◌≡◌, ℕ, ◌+◌, ◌<◌, ◌^◌, List, [], ◌∷◌, ◌++◌, length, drop, take, get_or, Option, None, Some, IfSome, Result, Ok, Err, IfOk, IfErr, inl, inr, refl, sym, ap, ◌∙◌, subst, arith}
use Rattle.std.proofs.lemmas.List.{length-append}
use Rattle.std.proofs.lemmas.Nat.{from_be_bytes-to_be_bytes_2, from_be_bytes-to_be_bytes_8}
use Rattle.std.specs.Int.{w16, w64, from_be_bytes, to_be_bytes}
use Rattle.std.specs.Io.KnownBytes.{Consumes}
use Rattle.krb_gss_tokens.specs.Layout.{wrap_id, wrap_header}
use Rattle.krb_gss_tokens.specs.Wrap.{FitsWrap, Wrap, WrapIs, wrap}
use Rattle.krb_gss_tokens.specs.PerMessageRejected.{Answers, AnswersUnlessError, Begins, IsError, RejectsAsEof, RejectsAsIo, WrapFirstError, WrapIsCut, WrapRejected}
use Rattle.krb_gss_tokens.specs.declared.error.GssApiMessageError.{GssApiMessageError}
use Rattle.krb_gss_tokens.specs.declared.error.GssApiMessageError.TheVariants as errors
use Rattle.krb_gss_tokens.proofs.Streams.{consumes_then, begun, all_read, prefix_taken}

-- five reads are a header
pub wrap_header_read : (a b c d e z : Option (List ℕ)) (id marks : List ℕ) (f x y n : ℕ) → id ≡ wrap_id → marks ≡ f ∷ 255 ∷ []
    → Consumes a b id → Consumes b c marks → Consumes c d (to_be_bytes w16 x) → Consumes d e (to_be_bytes w16 y) → Consumes e z (to_be_bytes w64 n) → Consumes a z (wrap_header f x y n)
wrap_header_read a b c d e z id marks f x y n i p t u v w o =
    let ec : List ℕ = to_be_bytes w16 x in
    let rrc : List ℕ = to_be_bytes w16 y in
    let number : List ℕ = to_be_bytes w64 n in
    let taken : Consumes a z (id ++ (marks ++ (ec ++ (rrc ++ number)))) =
    consumes_then a b z id (marks ++ (ec ++ (rrc ++ number))) t (consumes_then b c z marks (ec ++ (rrc ++ number)) u (consumes_then c d z ec (rrc ++ number) v (consumes_then d e z rrc number w o))) in
    let same : id ++ (marks ++ (ec ++ (rrc ++ number))) ≡ wrap_header f x y n = rw (i, p) refl in
    subst (λ (xs : List ℕ). Consumes a z xs) same taken

-- a filler after the id and the flags
pub wrap_filler_read : (a b c : Option (List ℕ)) (id marks : List ℕ) (f x : ℕ) → id ≡ wrap_id → marks ≡ f ∷ x ∷ []
    → Consumes a b id → Consumes b c marks → IfSome a (λ octets. (g : ℕ) × Begins octets (wrap_id ++ (g ∷ x ∷ [])))
wrap_filler_read None b c id marks f x i p s t = tt
wrap_filler_read (Some l) b c id marks f x i p s t =
    let taken : Consumes (Some l) c (id ++ marks) = consumes_then (Some l) b c id marks s t in
    let same : id ++ marks ≡ wrap_id ++ (f ∷ x ∷ []) = rw (i, p) refl in
    (f, begun (Some l) c (wrap_id ++ (f ∷ x ∷ [])) (subst (λ (xs : List ℕ). Consumes (Some l) c xs) same taken))

-- an error after the header
pub wrap_rest_rejected : (a b : Option (List ℕ)) (f x y n : ℕ) (e : GssApiMessageError) → Consumes a b (wrap_header f x y n) → IsError e → WrapRejected a e
wrap_rest_rejected a b f x y n (errors.InvalidId v w) p h = absurd h
wrap_rest_rejected a b f x y n (errors.InvalidMechanismOid v w) p h = absurd h
wrap_rest_rejected a b f x y n (errors.IoError v) p h = tt
wrap_rest_rejected a b f x y n (errors.InvalidMicFiller v) p h = absurd h
wrap_rest_rejected a b f x y n (errors.InvalidWrapFiller v) p h = absurd h
wrap_rest_rejected a b f x y n (errors.Asn1Error v) p h = absurd h
wrap_rest_rejected None b f x y n errors.OutOfMemory p h = tt
wrap_rest_rejected (Some l) b f x y n errors.OutOfMemory p h = (f, x, y, n, begun (Some l) b (wrap_header f x y n) p)

-- a whole token was read
pub wrap_read : (a b : Option (List ℕ)) (f x y n : ℕ) (rest : List ℕ) → Consumes a b (wrap_header f x y n) → IfSome b (λ left. rest ≡ left)
    → IfSome a (λ octets. WrapIs octets (record { flags = f; ec = x; rrc = y; seq_num = n; payload = None; checksum = rest }))
wrap_read None b f x y n rest p q = tt
wrap_read (Some l) b f x y n rest p q = (all_read (Some l) b (wrap_header f x y n) rest p q, refl)

same_number_2 : (m n : ℕ) → m < 2 ^ 16 → n < 2 ^ 16 → to_be_bytes w16 m ≡ to_be_bytes w16 n → m ≡ n
same_number_2 m n h k e = sym (from_be_bytes-to_be_bytes_2 m h) ∙ ap (from_be_bytes w16) e ∙ from_be_bytes-to_be_bytes_2 n k

same_number_8 : (m n : ℕ) → m < 2 ^ 64 → n < 2 ^ 64 → to_be_bytes w64 m ≡ to_be_bytes w64 n → m ≡ n
same_number_8 m n h k e = sym (from_be_bytes-to_be_bytes_8 m h) ∙ ap (from_be_bytes w64) e ∙ from_be_bytes-to_be_bytes_8 n k

-- octets are one token at most
pub one_wrap : (octets : List ℕ) (s t : Wrap) → FitsWrap s → FitsWrap t → WrapIs octets s → WrapIs octets t → s ≡ t
one_wrap octets s t hs ht p q =
    let mk : ℕ → ℕ → ℕ → ℕ → Option (List ℕ) → List ℕ → Wrap = λ f x y n l c. record { flags = f; ec = x; rrc = y; seq_num = n; payload = l; checksum = c } in
    let e : wrap s ≡ wrap t = sym p.0 ∙ q.0 in
    let f : s.flags ≡ t.flags = ap (λ (xs : List ℕ). get_or xs 2 0) e in
    let x : s.ec ≡ t.ec = same_number_2 s.ec t.ec hs.0 ht.0 (ap (λ (xs : List ℕ). take 2 (drop 4 xs)) e) in
    let y : s.rrc ≡ t.rrc = same_number_2 s.rrc t.rrc hs.1 ht.1 (ap (λ (xs : List ℕ). take 2 (drop 6 xs)) e) in
    let n : s.seq_num ≡ t.seq_num = same_number_8 s.seq_num t.seq_num hs.2 ht.2 (ap (λ (xs : List ℕ). take 8 (drop 8 xs)) e) in
    let l : s.payload ≡ t.payload = p.1 ∙ sym q.1 in
    let c : s.checksum ≡ t.checksum = ap (λ (xs : List ℕ). drop 16 xs) e in
    ap (λ (z : ℕ). mk z s.ec s.rrc s.seq_num s.payload s.checksum) f ∙ ap (λ (z : ℕ). mk t.flags z s.rrc s.seq_num s.payload s.checksum) x
    ∙ ap (λ (z : ℕ). mk t.flags t.ec z s.seq_num s.payload s.checksum) y ∙ ap (λ (z : ℕ). mk t.flags t.ec t.rrc z s.payload s.checksum) n
    ∙ ap (λ (z : Option (List ℕ)). mk t.flags t.ec t.rrc t.seq_num z s.checksum) l ∙ ap (λ (z : List ℕ). mk t.flags t.ec t.rrc t.seq_num t.payload z) c

-- octets that begin with the id do not begin with another
wrap_id_read : (octets got trailing : List ℕ) → Begins octets wrap_id → length got ≡ 2 → octets ≡ got ++ trailing → got ≡ wrap_id
wrap_id_read octets got trailing b e p = sym (prefix_taken got trailing 2 e) ∙ ap (take 2) (sym p ∙ b.1)

-- octets that have the filler after the id and the flags have no other
wrap_filler_reported : (octets trailing : List ℕ) (f g got : ℕ) → Begins octets (wrap_id ++ (f ∷ 255 ∷ [])) → octets ≡ (wrap_id ++ (g ∷ got ∷ [])) ++ trailing → got ≡ 255
wrap_filler_reported octets trailing f g got b p = ap (λ (xs : List ℕ). get_or xs 3 0) (sym p ∙ b.1)

-- the octets begin with a whole header
headed : (octets : List ℕ) (t : Wrap) → octets ≡ wrap t → Begins octets (wrap_id ++ (t.flags ∷ 255 ∷ []))
headed octets t p = (to_be_bytes w16 t.ec ++ to_be_bytes w16 t.rrc ++ to_be_bytes w64 t.seq_num ++ t.checksum, p)

wrap_not_rejected : (octets : List ℕ) (t : Wrap) (e : GssApiMessageError) → WrapIs octets t → WrapRejected (Some octets) e → IsError e
wrap_not_rejected octets t (errors.InvalidId x y) p r = absurd (r.1 (wrap_id_read octets y r.3.0 (_, p.0) r.2 r.3.1))
wrap_not_rejected octets t (errors.InvalidMechanismOid x y) p r = absurd r
wrap_not_rejected octets t (errors.IoError x) p r = tt
wrap_not_rejected octets t (errors.InvalidMicFiller x) p r = absurd r
wrap_not_rejected octets t (errors.InvalidWrapFiller x) p r = absurd (r.0 (wrap_filler_reported octets r.1.1.0 t.flags r.1.0 x (headed octets t p.0) r.1.1.1))
wrap_not_rejected octets t (errors.Asn1Error x) p r = absurd r
wrap_not_rejected octets t errors.OutOfMemory p r = tt

-- where the octets are a token, it is the result, but for an error
pub only_wrap : (known : Option (List ℕ)) (r : Result Wrap GssApiMessageError) → IfOk r (λ t. IfSome known (λ octets. WrapIs octets t)) → IfOk r FitsWrap → IfErr r (WrapRejected known)
    → IfSome known (λ octets. (t : Wrap) → FitsWrap t → WrapIs octets t → AnswersUnlessError r t)
only_wrap None r x y z = tt
only_wrap (Some octets) (Ok s) x y z = λ t h p. one_wrap octets s t y h x p
only_wrap (Some octets) (Err e) x y z = λ t h p. wrap_not_rejected octets t e p z

-- fewer octets than a header has
short : (octets : List ℕ) → WrapIsCut octets → length octets < 16
short octets (inl h) = omega arith
short octets (inr (inl h)) = let k : length octets < 4 = h.1 in omega arith
short octets (inr (inr h)) = h.1

wrap_cut_rejected : (octets : List ℕ) (e : GssApiMessageError) → WrapIsCut octets → WrapRejected (Some octets) e → RejectsAsIo {A = Wrap} (Err e)
wrap_cut_rejected octets (errors.InvalidId x y) (inl h) r =
    let e : length octets ≡ length y + length r.3.0 = ap length r.3.1 ∙ length-append y r.3.0 in
    let k : length y ≡ 2 = r.2 in
    absurd (omega arith)
wrap_cut_rejected octets (errors.InvalidId x y) (inr (inl h)) r = absurd (r.1 (wrap_id_read octets y r.3.0 h.0 r.2 r.3.1))
wrap_cut_rejected octets (errors.InvalidId x y) (inr (inr h)) r = absurd (r.1 (wrap_id_read octets y r.3.0 (_, h.0.1.1) r.2 r.3.1))
wrap_cut_rejected octets (errors.InvalidMechanismOid x y) h r = absurd r
wrap_cut_rejected octets (errors.IoError x) h r = tt
wrap_cut_rejected octets (errors.InvalidMicFiller x) h r = absurd r
wrap_cut_rejected octets (errors.InvalidWrapFiller x) (inl h) r =
    let e : length octets ≡ 4 + length r.1.1.0 = ap length r.1.1.1 ∙ length-append (wrap_id ++ (r.1.0 ∷ x ∷ [])) r.1.1.0 in
    absurd (omega arith)
wrap_cut_rejected octets (errors.InvalidWrapFiller x) (inr (inl h)) r =
    let e : length octets ≡ 4 + length r.1.1.0 = ap length r.1.1.1 ∙ length-append (wrap_id ++ (r.1.0 ∷ x ∷ [])) r.1.1.0 in
    let m : length octets < 4 = h.1 in
    absurd (omega arith)
wrap_cut_rejected octets (errors.InvalidWrapFiller x) (inr (inr h)) r = absurd (r.0 (wrap_filler_reported octets r.1.1.0 h.0.0 r.1.0 x h.0.1 r.1.1.1))
wrap_cut_rejected octets (errors.Asn1Error x) h r = absurd r
wrap_cut_rejected octets errors.OutOfMemory h r =
    let e : length octets ≡ 16 + length r.4.0 = ap length r.4.1 ∙ length-append (wrap_header r.0 r.1 r.2 r.3) r.4.0 in
    let k : length octets < 16 = short octets h in
    absurd (omega arith)

-- where a field is cut short, the result is an `IoError`
pub cut_wrap : (known : Option (List ℕ)) (r : Result Wrap GssApiMessageError) → IfOk r (λ t. IfSome known (λ octets. WrapIs octets t)) → IfErr r (WrapRejected known)
    → IfSome known (λ octets. WrapIsCut octets → RejectsAsIo r)
cut_wrap None r x y = tt
cut_wrap (Some octets) (Ok s) x y = λ h.
    let e : length octets ≡ 16 + length s.checksum = ap length x.0 ∙ length-append (wrap_header s.flags s.ec s.rrc s.seq_num) s.checksum in
    let k : length octets < 16 = short octets h in
    absurd (omega arith)
cut_wrap (Some octets) (Err e) x y = λ h. wrap_cut_rejected octets e h y

-- octets that are a token are not cut short
whole : (octets : List ℕ) (t : Wrap) → WrapIs octets t → WrapIsCut octets → ⊥
whole octets t p h =
    let e : length octets ≡ 16 + length t.checksum = ap length p.0 ∙ length-append (wrap_header t.flags t.ec t.rrc t.seq_num) t.checksum in
    let k : length octets < 16 = short octets h in
    omega arith

wrap_slice_not_rejected : (octets : List ℕ) (t : Wrap) (e : GssApiMessageError) → WrapIs octets t → WrapFirstError octets e → e ≡ errors.OutOfMemory
wrap_slice_not_rejected octets t (errors.InvalidId x y) p r = absurd (wrap_not_rejected octets t (errors.InvalidId x y) p r)
wrap_slice_not_rejected octets t (errors.InvalidMechanismOid x y) p r = absurd r
wrap_slice_not_rejected octets t (errors.IoError x) p r = absurd (whole octets t p r.1)
wrap_slice_not_rejected octets t (errors.InvalidWrapFiller x) p r = absurd (wrap_not_rejected octets t (errors.InvalidWrapFiller x) p r)
wrap_slice_not_rejected octets t (errors.InvalidMicFiller x) p r = absurd r
wrap_slice_not_rejected octets t (errors.Asn1Error x) p r = absurd r
wrap_slice_not_rejected octets t errors.OutOfMemory p r = refl

-- where the octets of a slice are a token, it is the result, unless memory ran out
pub only_wrap_slice : (octets : List ℕ) (r : Result Wrap GssApiMessageError) → IfOk r (WrapIs octets) → IfOk r FitsWrap → IfErr r (WrapFirstError octets)
    → (t : Wrap) → FitsWrap t → WrapIs octets t → Answers r t
only_wrap_slice octets (Ok s) x y z t h p = one_wrap octets s t y h x p
only_wrap_slice octets (Err e) x y z t h p = wrap_slice_not_rejected octets t e p z

-- where a field of a slice is cut short, the result is an early end
pub cut_wrap_slice : (octets : List ℕ) (r : Result Wrap GssApiMessageError) → IfOk r (WrapIs octets) → IfErr r (WrapFirstError octets) → WrapIsCut octets → RejectsAsEof r
cut_wrap_slice octets (Ok s) x y h = absurd (whole octets s x h)
cut_wrap_slice octets (Err (errors.InvalidId v w)) x y h = absurd (wrap_cut_rejected octets (errors.InvalidId v w) h y)
cut_wrap_slice octets (Err (errors.InvalidMechanismOid v w)) x y h = absurd y
cut_wrap_slice octets (Err (errors.IoError v)) x y h = y.0
cut_wrap_slice octets (Err (errors.InvalidWrapFiller v)) x y h = absurd (wrap_cut_rejected octets (errors.InvalidWrapFiller v) h y)
cut_wrap_slice octets (Err (errors.InvalidMicFiller v)) x y h = absurd y
cut_wrap_slice octets (Err (errors.Asn1Error v)) x y h = absurd y
cut_wrap_slice octets (Err errors.OutOfMemory) x y h = absurd (wrap_cut_rejected octets errors.OutOfMemory h y)
