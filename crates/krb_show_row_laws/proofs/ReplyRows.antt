-- The alternatives of PA-PK-AS-REP (RFC 4556, 3.2.3), and the choice of them.
use Rattle.std.proofs.Common.{◌≡◌, ◌⊎◌, inl, inr, ℕ, ◌==◌, Bool, true, false, refl, sym, ap, ◌∙◌, arith, List, [], ◌++◌, Some, Result, Ok, Err, codes}
use Rattle.std.specs.Prelude.{◌||◌, IfErr, Vec}
use Rattle.std.proofs.lemmas.Grind.{common_steps}
use Rattle.std.specs.declared.alloc.Global.{Global}
use Rattle.krb_der_core.specs.Errors.{PrefixError, ValueError, at_start, cut_content, left_over, no_tag, wrong_content, wrong_length, wrong_tag}
use Rattle.krb_der_core.specs.Tlv.{tlv}
use Rattle.krb_der_core.specs.declared.der.DerEncode.{Ghosts as EncodingOf}
use Rattle.krb_der_core.specs.declared.error.Asn1DerError.{Asn1DerError}
use Rattle.krb_der_core.specs.declared.error.Asn1DerError.TheVariants as errors
use Rattle.krb_der.specs.Choice.{ChoiceError, of_first, of_second}
use Rattle.krb_pkinit.specs.declared.pkinit.answers.PaPkAsRep.{PaPkAsRep}
use Rattle.krb_pkinit.specs.declared.pkinit.answers.PaPkAsRep.TheVariants.{DhInfo, EncKeyPack}
use Rattle.krb_pkinit.specs.declared.pkinit.replies.DhRepInfo.{DhRepInfo}
use Rattle.krb_schema.specs.declared.shape.Name.{Name}
use Rattle.krb_schema.specs.declared.shape.Schema.{Schema}
use Rattle.krb_schema.specs.Named.{IsKerberos, row_in}
use Rattle.krb_schema.specs.Types.{shapes, types}
use Rattle.krb_show.specs.Tokens.{Token}
use Rattle.krb_show_messages.specs.Shown.{IsRefusedBy}
use Rattle.krb_show_pages.specs.Choices.{by_alternative, is_pack}
use Rattle.krb_show_row_laws.proofs.BareRows.{octets_under_tie}
use Rattle.krb_show_row_laws.proofs.CodecRows.{IsCode, Tie, tagged_tie}
use Rattle.krb_show_row_laws.proofs.Codecs.{Codec, octets_under, tagged}
use Rattle.krb_show_row_laws.proofs.FaultLeaves.{octets_under_refused}
use Rattle.krb_show_row_laws.proofs.FaultRows.{FaultTie, explicit_refused, whole_refused}
use Rattle.krb_show_row_laws.proofs.PublicKeyErrors.{dh_rep_info_reader, dh_rep_info_refused}
use Rattle.krb_show_row_laws.proofs.PublicKeyRows.{dh_rep_info, dh_rep_info_same, dh_rep_info_tie, dh_rep_info_valid}
use Rattle.krb_show_row_laws.proofs.Readers.{Reader, explicit, whole_error}
use Rattle.krb_show_row_laws.proofs.Readers as reader
use Rattle.krb_show_row_laws.proofs.Taken.{AreOfRow, AreTaken, HaveErrors, are_taken, refused_as}
use Rattle.krb_show_row_laws.proofs.FirstErrors.{is_first_error}
use Rattle.krb_show_row_laws.specs.Ties.{IsEncoding, IsFirstError, IsRefusedAs, IsTaken, RepliesHaveErrors, RepliesTakeEncodings}

-- ---- the alternatives and their rows

abbrev pub dh_info : Codec
dh_info = tagged 160 dh_rep_info

dh_info_tie : (schema : Schema) (k : IsKerberos schema) → Tie schema k 64 113 dh_info
unfolding shapes
dh_info_tie schema k = tagged_tie schema k 63 113 160 115 dh_rep_info refl (dh_rep_info_tie schema k 61)

abbrev pub enc_key_pack : Codec
enc_key_pack = octets_under 129

enc_key_pack_tie : (schema : Schema) (k : IsKerberos schema) → Tie schema k 64 114 enc_key_pack
unfolding shapes
enc_key_pack_tie schema k = octets_under_tie schema k 63 114 129 refl

of_row : (c : Codec) (schema : Schema) (k : IsKerberos schema) (row : ℕ) (name : Name) → Tie schema k 64 row c → AreOfRow (IsCode c) schema row name
of_row c schema k row name tie = record {
  read = λ octets h none. tie.into name [] h.code h.valid (λ r. none r.forest r.element (h.are ∙ r.octets_are));
  walked = λ octets small f element e. tie.from name [] octets small (record { forest = f; element = element; octets_are = e });
}

abbrev pub info_reader : Reader
info_reader = explicit 160 dh_rep_info_reader

info_refused : (schema : Schema) (k : IsKerberos schema) → FaultTie schema k 64 113 info_reader
unfolding shapes
info_refused schema k = explicit_refused schema k 63 113 160 115 dh_rep_info_reader refl (dh_rep_info_refused schema k 61)

abbrev pub pack_reader : Reader
pack_reader = reader.octets_under 129

pack_refused : (schema : Schema) (k : IsKerberos schema) → FaultTie schema k 64 114 pack_reader
unfolding shapes
pack_refused schema k = octets_under_refused schema k 63 114 129 refl

info_is : row_in types (codes "PA-PK-AS-REP (dhInfo)") ≡ Some 113
unfolding types
info_is = refl

pack_is : row_in types (codes "PA-PK-AS-REP (encKeyPack)") ≡ Some 114
unfolding types
pack_is = refl

-- ---- the first octet

first_of_info : (content : List ℕ) → is_pack (tlv 160 content) ≡ false
unfolding tlv
first_of_info content = refl

first_of_pack : (content : List ℕ) → is_pack (tlv 129 content) ≡ true
unfolding tlv
first_of_pack content = refl

clash : true ≡ false → ⊥
clash e = cc

-- ---- the choice

-- this is the type: its values are those of the alternatives, with their encodings
pub record IsReplyType (t : EncodingOf PaPkAsRep) : Type 0 where
  pub info_enc : (v : DhRepInfo) → t.enc (DhInfo v) ≡ dh_info.enc v
  pub info_to : (v : DhRepInfo) → t.is_value (DhInfo v) → dh_info.valid v
  pub info_of : (v : DhRepInfo) → dh_info.valid v → t.is_value (DhInfo v)
  pub pack_enc : (v : List ℕ) → t.enc (EncKeyPack v) ≡ enc_key_pack.enc v
  pub pack_to : (v : List ℕ) → t.is_value (EncKeyPack v) → enc_key_pack.valid v
  pub pack_of : (v : List ℕ) → enc_key_pack.valid v → t.is_value (EncKeyPack v)
  pub firsts : (u : ℕ) → t.first u ≡ (u == 160 || u == 129)
  pub error_of : (u : ℕ) (content : List ℕ) (e : Asn1DerError) → ChoiceError 160 129 info_reader.error pack_reader.error u content e → t.error u content e

module _ {t : EncodingOf PaPkAsRep} (r : IsReplyType t) where
  of_info : (octets : List ℕ) → IsCode dh_info octets → IsEncoding t octets
  of_info octets c = (DhInfo c.code, r.info_of c.code c.valid, c.are ∙ sym (r.info_enc c.code))

  of_pack : (octets : List ℕ) → IsCode enc_key_pack octets → IsEncoding t octets
  of_pack octets c = (EncKeyPack c.code, r.pack_of c.code c.valid, c.are ∙ sym (r.pack_enc c.code))

  to_info : (octets : List ℕ) → is_pack octets ≡ false → IsEncoding t octets → IsCode dh_info octets
  to_info octets e (DhInfo v, valid, are) = record { code = v; valid = r.info_to v valid; are = are ∙ r.info_enc v }
  to_info octets e (EncKeyPack v, valid, are) = absurd (clash (sym (ap is_pack (are ∙ r.pack_enc v) ∙ first_of_pack v) ∙ e))

  to_pack : (octets : List ℕ) → is_pack octets ≡ true → IsEncoding t octets → IsCode enc_key_pack octets
  to_pack octets e (DhInfo v, valid, are) = absurd (clash (sym e ∙ ap is_pack (are ∙ r.info_enc v) ∙ first_of_info (dh_rep_info.enc v)))
  to_pack octets e (EncKeyPack v, valid, are) = record { code = v; valid = r.pack_to v valid; are = are ∙ r.pack_enc v }

  taken_as : (Is : List ℕ → Type 0) (octets : List ℕ) → (Is octets → IsEncoding t octets) → (IsEncoding t octets → Is octets)
      → (result : Result (Vec Token Global) Asn1DerError) → AreTaken Is octets result → IsTaken t octets result
  taken_as Is octets of to (Ok page) h = of h
  taken_as Is octets of to (Err e) h = λ v. h (to v)

  pub reply_takes : RepliesTakeEncodings t
  reply_takes octets result small w = by_first (is_pack octets) refl w
    where
      by_first : (p : Bool) → is_pack octets ≡ p → by_alternative p (λ page. page.items) octets result → IsTaken t octets result
      by_first true e g =
          taken_as (IsCode enc_key_pack) octets (of_pack octets) (to_pack octets e) result
          (are_taken (IsCode enc_key_pack) (codes "PA-PK-AS-REP (encKeyPack)") 114 pack_is
          (λ schema name k. of_row enc_key_pack schema k 114 name (enc_key_pack_tie schema k)) (codes "encKeyPack") octets _ result small g)
      by_first false e g =
          taken_as (IsCode dh_info) octets (of_info octets) (to_info octets e) result
          (are_taken (IsCode dh_info) (codes "PA-PK-AS-REP (dhInfo)") 113 info_is
          (λ schema name k. of_row dh_info schema k 113 name (dh_info_tie schema k)) (codes "dhInfo") octets _ result small g)

  -- ---- errors: that of the alternative which the first octet tells

  same : (m n : ℕ) → (m == n) ≡ true → m ≡ n
  same m n e = grind (arith, common_steps)

  first_of_either : (u : ℕ) → (u == 160) ≡ true ⊎ (u == 129) ≡ true → t.first u ≡ true
  first_of_either u (inl e) = r.firsts u ∙ ap (λ (b : Bool). b || u == 129) e
  first_of_either u (inr e) = r.firsts u ∙ ap (λ (b : Bool). u == 160 || b) e ∙ or_true (u == 160)
    where
      or_true : (b : Bool) → (b || true) ≡ true
      or_true true = refl
      or_true false = refl

  first_of_neither : (u : ℕ) → (u == 160) ≡ false → (u == 129) ≡ false → t.first u ≡ false
  first_of_neither u e f = r.firsts u ∙ ap (λ (b : Bool). b || u == 129) e ∙ f

  info_error : (octets : List ℕ) (e : Asn1DerError) → is_pack octets ≡ false → PrefixError info_reader.first info_reader.error octets e
      → PrefixError t.first t.error octets e
  info_error octets e p (no_tag q) = no_tag q
  info_error octets e p (wrong_tag u rest q w) = wrong_tag u rest q (first_of_neither u w (sym (ap is_pack q) ∙ p))
  info_error octets e p (wrong_length u rest d q w f) = wrong_length u rest d q (first_of_either u (inl w)) f
  info_error octets e p (cut_content u n rest q w less short) = cut_content u n rest q (first_of_either u (inl w)) less short
  info_error octets e p (wrong_content u content rest d q w less f) =
      wrong_content u content rest d q (first_of_either u (inl w)) less (r.error_of u content d (of_first d (same u 160 w) f))

  pack_error : (octets : List ℕ) (e : Asn1DerError) → is_pack octets ≡ true → PrefixError pack_reader.first pack_reader.error octets e
      → PrefixError t.first t.error octets e
  pack_error octets e p (no_tag q) = no_tag q
  pack_error octets e p (wrong_tag u rest q w) = absurd (clash (sym (sym (ap is_pack q) ∙ p) ∙ w))
  pack_error octets e p (wrong_length u rest d q w f) = wrong_length u rest d q (first_of_either u (inr w)) f
  pack_error octets e p (cut_content u n rest q w less short) = cut_content u n rest q (first_of_either u (inr w)) less short
  pack_error octets e p (wrong_content u content rest d q w less f) =
      wrong_content u content rest d q (first_of_either u (inr w)) less (r.error_of u content d (of_second d (same u 129 w) f))

  info_whole : (octets : List ℕ) (e : Asn1DerError) → is_pack octets ≡ false → whole_error info_reader octets e
      → ValueError t.is_value t.enc t.first t.error octets e
  info_whole octets e p (at_start d f) = at_start d (info_error octets d p f)
  info_whole octets e p (left_over v rest valid q ends some) =
      left_over (DhInfo v) rest (r.info_of v (dh_rep_info_valid v valid))
      (q ∙ ap (λ (o : List ℕ). o ++ rest) (ap (tlv 160) (dh_rep_info_same v) ∙ sym (r.info_enc v))) tt some

  pack_whole : (octets : List ℕ) (e : Asn1DerError) → is_pack octets ≡ true → whole_error pack_reader octets e
      → ValueError t.is_value t.enc t.first t.error octets e
  pack_whole octets e p (at_start d f) = at_start d (pack_error octets d p f)
  pack_whole octets e p (left_over v rest valid q ends some) =
      left_over (EncKeyPack v) rest (r.pack_of v valid.0) (q ∙ ap (λ (o : List ℕ). o ++ rest) (sym (r.pack_enc v))) tt some

  have_errors : (b : Bool) (row : ℕ) (c : Reader) → ((schema : Schema) (k : IsKerberos schema) → FaultTie schema k 64 row c)
      → ((octets : List ℕ) (e : Asn1DerError) → is_pack octets ≡ b → whole_error c octets e → ValueError t.is_value t.enc t.first t.error octets e)
      → (schema : Schema) (name : Name) → IsKerberos schema → HaveErrors (λ octets e. is_pack octets ≡ b → IsFirstError t octets e) schema row name
  have_errors b row c tie whole schema name k octets fault small less f =
      let w = whole_refused schema k 64 row c (tie schema k) name [] 0 octets fault (small, less) f in
      (w.why, w.at, w.fault_is, λ p. is_first_error t octets w.why less w.no_device (whole octets w.why p w.is_so))

  told : (b : Bool) (octets : List ℕ) (e : Asn1DerError) → is_pack octets ≡ b → (e ≡ errors.OutOfMemory) ⊎ (is_pack octets ≡ b → IsFirstError t octets e)
      → IsRefusedAs t octets e
  told b octets e p (inl m) = inl m
  told b octets e p (inr f) = inr (f p)

  pub reply_errors : RepliesHaveErrors t
  reply_errors octets result small less w = by_first (is_pack octets) refl w
    where
      by_result : (b : Bool) (row_name text : List ℕ) (row : ℕ) → row_in types row_name ≡ Some row
          → ((schema : Schema) (name : Name) → IsKerberos schema → HaveErrors (λ o e. is_pack o ≡ b → IsFirstError t o e) schema row name)
          → is_pack octets ≡ b → (found : Result (Vec Token Global) Asn1DerError) → IfErr found (IsRefusedBy row_name text octets)
          → IfErr found (IsRefusedAs t octets)
      by_result b row_name text row is ties p (Ok page) h = tt
      by_result b row_name text row is ties p (Err e) h =
          told b octets e p (refused_as (λ o d. is_pack o ≡ b → IsFirstError t o d) row_name row is ties text octets e small less h)

      by_first : (p : Bool) → is_pack octets ≡ p → by_alternative p (λ page. page.items) octets result → IfErr result (IsRefusedAs t octets)
      by_first true e g =
          by_result true (codes "PA-PK-AS-REP (encKeyPack)") (codes "encKeyPack") 114 pack_is
          (have_errors true 114 pack_reader pack_refused pack_whole) e result g.refused
      by_first false e g =
          by_result false (codes "PA-PK-AS-REP (dhInfo)") (codes "dhInfo") 113 info_is
          (have_errors false 113 info_reader info_refused info_whole) e result g.refused
