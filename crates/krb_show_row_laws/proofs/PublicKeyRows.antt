-- Types of PKINIT, PKU2U and X.509 as codecs, and their rows: those with fields by themselves, or in a tag in place of their own.
use Rattle.std.proofs.Common.{◌≡◌, ℕ, ℤ, suc, false, refl, sym, ap, ◌∙◌, List, ◌++◌, lit≤}
use Rattle.std.specs.List.{AllByRecursion}
use Rattle.std.specs.Option.{IfSome}
use Rattle.std.proofs.lemmas.List.{append-nil, append_assoc}
use Rattle.krb_der.specs.Asn1.{bit_string, explicit, octet_string, sequence}
use Rattle.krb_der.specs.Asn1.{integer as integer_octets, sequence_of as asn1_sequence_of}
use Rattle.krb_der_core.specs.BitString.{Bits, IsBits}
use Rattle.krb_der_core.specs.Encoding.{IsElement as IsDer, IsOctets, optional}
use Rattle.krb_der_core.specs.Tlv.{tlv}
use Rattle.krb_der_x509.specs.Implicit.{implicit}
use Rattle.krb_der_x509.specs.ObjectIdentifier.{IsArcs, object_identifier}
use Rattle.krb_der_x509.specs.RawValue.{is_raw_first}
use Rattle.krb_der_x509.specs.declared.x509.AlgorithmIdentifier.{AlgorithmIdentifier}
use Rattle.krb_der_x509.specs.declared.x509.SubjectPublicKeyInfo.{SubjectPublicKeyInfo}
use Rattle.krb_pkinit.specs.declared.pkinit.groups.DhDomainParameters.{DhDomainParameters}
use Rattle.krb_pkinit.specs.declared.pkinit.groups.DhReqInfo.{DhReqInfo}
use Rattle.krb_pkinit.specs.declared.pkinit.groups.DhReqKeyInfo.{DhReqKeyInfo}
use Rattle.krb_pkinit.specs.declared.pkinit.pku2u.Pku2uNegoRep.{Pku2uNegoRep}
use Rattle.krb_pkinit.specs.declared.pkinit.pku2u.Pku2uNegoReq.{Pku2uNegoReq}
use Rattle.krb_pkinit.specs.declared.pkinit.pku2u.Pku2uNegoReqMetadata.{Pku2uNegoReqMetadata}
use Rattle.krb_pkinit.specs.declared.pkinit.replies.DhRepInfo.{DhRepInfo}
use Rattle.krb_pkinit.specs.declared.pkinit.requests.AuthPack.{AuthPack}
use Rattle.krb_pkinit.specs.declared.pkinit.requests.ExternalPrincipalIdentifier.{ExternalPrincipalIdentifier}
use Rattle.krb_pkinit.specs.declared.pkinit.requests.PaPkAsReq.{PaPkAsReq}
use Rattle.krb_schema.specs.declared.shape.Schema.{Schema}
use Rattle.krb_schema.specs.Named.{IsKerberos}
use Rattle.krb_schema.specs.Types.{cases, fields, shapes}
use Rattle.krb_show_row_laws.proofs.Codecs.{Codec, any, bare, bits, coded, end, identifier, integer, maybe, maybe_bare, octets, octets_under, required, sequence_of, tagged}
use Rattle.krb_show_row_laws.proofs.CodecRows.{IsAny, Tie, all_as, bits_tie, coded_tie, end_tie, flat_map_same, integer_tie, list_tie, maybe_tie, octets_tie, optional_same, required_tie, sequence_tie, some_as}
use Rattle.krb_show_row_laws.proofs.BareRows.{any_begins, any_tie, bare_tie, identifier_tie, last_any_tie, maybe_bare_tie, octets_under_tie, tlv_begins}
use Rattle.krb_show_row_laws.proofs.CertificateRows.{pk_authenticator, pk_authenticator_tie, pk_authenticator_octets, pk_authenticator_same, pk_authenticator_value, pk_authenticator_valid, pk_authenticator_right, pku2u_nego_body, pku2u_nego_body_tie, pku2u_nego_body_octets, pku2u_nego_body_same, pku2u_nego_body_value, pku2u_nego_body_valid, pku2u_nego_body_right}

-- as the words of a type with an IMPLICIT tag have it
abbrev pub IsUnder : List ℕ → Type 0
IsUnder v = IsOctets v × (tlv 4 v ≡ tlv 4 v)

-- ---- PKU2U-NEGO-REQ-METADATA

abbrev pub pku2u_nego_req_metadata_fields : Codec
pku2u_nego_req_metadata_fields = tagged 48 (bare (octets_under 128) end)

abbrev pub pku2u_nego_req_metadata_to : Pku2uNegoReqMetadata → (pku2u_nego_req_metadata_fields).value
pku2u_nego_req_metadata_to v = (v.inner, tt)

abbrev pub pku2u_nego_req_metadata_of : (pku2u_nego_req_metadata_fields).value → Pku2uNegoReqMetadata
pku2u_nego_req_metadata_of x = record { inner = x.0 }

abbrev pub pku2u_nego_req_metadata : Codec
pku2u_nego_req_metadata = coded pku2u_nego_req_metadata_fields pku2u_nego_req_metadata_to

pub pku2u_nego_req_metadata_tie : (schema : Schema) (k : IsKerberos schema) (levels : ℕ) → Tie schema k (suc (suc levels)) 98 pku2u_nego_req_metadata
unfolding cases fields shapes
pku2u_nego_req_metadata_tie schema k levels =
    coded_tie schema k (suc (suc levels)) 98 pku2u_nego_req_metadata_fields pku2u_nego_req_metadata_to pku2u_nego_req_metadata_of (λ x. refl)
    (sequence_tie schema k (suc levels) 98 48 170 1 _ _ refl (lit≤ tt) refl
    (bare_tie schema k _ _ _ _ _ _ _ _ _ (λ x v. tlv_begins _ _) (octets_under_tie schema k levels 97 128 refl)
    (end_tie schema k _)))

abbrev pub pku2u_nego_req_metadata_octets : Pku2uNegoReqMetadata → List ℕ
pku2u_nego_req_metadata_octets v = sequence (implicit 0 v.inner)

pub pku2u_nego_req_metadata_same : (v : Pku2uNegoReqMetadata) → pku2u_nego_req_metadata_octets v ≡ pku2u_nego_req_metadata.enc v
pku2u_nego_req_metadata_same v = simp (append-nil) refl

abbrev pub pku2u_nego_req_metadata_value : Pku2uNegoReqMetadata → Type 0
pku2u_nego_req_metadata_value v = IsUnder v.inner

pub pku2u_nego_req_metadata_valid : (v : Pku2uNegoReqMetadata) → pku2u_nego_req_metadata_value v → pku2u_nego_req_metadata.valid v
pku2u_nego_req_metadata_valid v h = (h.0, tt)

pub pku2u_nego_req_metadata_right : (v : Pku2uNegoReqMetadata) → pku2u_nego_req_metadata.valid v → pku2u_nego_req_metadata_value v
pku2u_nego_req_metadata_right v h = (h.0, refl)

-- ---- PKU2U-NEGO-REQ

abbrev pub pku2u_nego_req_fields : Codec
pku2u_nego_req_fields = tagged 48 (required 160 (sequence_of pku2u_nego_req_metadata) (required 161 pku2u_nego_body end))

abbrev pub pku2u_nego_req_to : Pku2uNegoReq → (pku2u_nego_req_fields).value
pku2u_nego_req_to v = (v.metadata, (v.body, tt))

abbrev pub pku2u_nego_req_of : (pku2u_nego_req_fields).value → Pku2uNegoReq
pku2u_nego_req_of x = record { metadata = x.0; body = x.1.0 }

abbrev pub pku2u_nego_req : Codec
pku2u_nego_req = coded pku2u_nego_req_fields pku2u_nego_req_to

pub pku2u_nego_req_tie : (schema : Schema) (k : IsKerberos schema) (levels : ℕ) → Tie schema k (suc (suc (suc (suc (suc levels))))) 101 pku2u_nego_req
unfolding cases fields shapes
pku2u_nego_req_tie schema k levels =
    coded_tie schema k (suc (suc (suc (suc (suc levels))))) 101 pku2u_nego_req_fields pku2u_nego_req_to pku2u_nego_req_of (λ x. refl)
    (sequence_tie schema k (suc (suc (suc (suc levels)))) 101 48 173 2 _ _ refl (lit≤ tt) refl
    (required_tie schema k _ _ _ _ _ _ _ _ _ (list_tie schema k (suc (suc (suc levels))) 100 98 false _ refl (pku2u_nego_req_metadata_tie schema k (suc levels)))
    (required_tie schema k _ _ _ _ _ _ _ _ _ (pku2u_nego_body_tie schema k levels)
    (end_tie schema k _))))

abbrev pub pku2u_nego_req_octets : Pku2uNegoReq → List ℕ
pku2u_nego_req_octets v = sequence (explicit 0 ((asn1_sequence_of pku2u_nego_req_metadata_octets) v.metadata) ++ explicit 1 (pku2u_nego_body_octets v.body))

pub pku2u_nego_req_same : (v : Pku2uNegoReq) → pku2u_nego_req_octets v ≡ pku2u_nego_req.enc v
pku2u_nego_req_same v =
    let e0 = (ap (tlv 48) (flat_map_same (λ x0. (pku2u_nego_req_metadata_same x0)) v.metadata)) in
    let e1 = (pku2u_nego_body_same v.body) in
    let whole : pku2u_nego_req_octets v ≡ tlv 48 (tlv 160 ((sequence_of pku2u_nego_req_metadata).enc v.metadata) ++ tlv 161 (pku2u_nego_body.enc v.body)) =
    rw (e0, e1) (refl) in
    whole ∙ ap (λ (o : List ℕ). tlv 48 (tlv 160 ((sequence_of pku2u_nego_req_metadata).enc v.metadata) ++ o)) (sym (append-nil (tlv 161 (pku2u_nego_body.enc v.body))))

abbrev pub pku2u_nego_req_value : Pku2uNegoReq → Type 0
pku2u_nego_req_value v = (AllByRecursion pku2u_nego_req_metadata_value) v.metadata × pku2u_nego_body_value v.body

pub pku2u_nego_req_valid : (v : Pku2uNegoReq) → pku2u_nego_req_value v → pku2u_nego_req.valid v
pku2u_nego_req_valid v h = ((all_as {P = pku2u_nego_req_metadata_value} {Q = pku2u_nego_req_metadata.valid} (λ x0 k0. (pku2u_nego_req_metadata_valid x0 k0)) v.metadata h.0), ((pku2u_nego_body_valid v.body h.1), tt))

pub pku2u_nego_req_right : (v : Pku2uNegoReq) → pku2u_nego_req.valid v → pku2u_nego_req_value v
pku2u_nego_req_right v h = ((all_as {P = pku2u_nego_req_metadata.valid} {Q = pku2u_nego_req_metadata_value} (λ x0 k0. (pku2u_nego_req_metadata_right x0 k0)) v.metadata h.0), (pku2u_nego_body_right v.body h.1.0))

-- ---- PKU2U-NEGO-REP

abbrev pub pku2u_nego_rep_fields : Codec
pku2u_nego_rep_fields = tagged 48 (required 160 (sequence_of pku2u_nego_req_metadata) end)

abbrev pub pku2u_nego_rep_to : Pku2uNegoRep → (pku2u_nego_rep_fields).value
pku2u_nego_rep_to v = (v.metadata, tt)

abbrev pub pku2u_nego_rep_of : (pku2u_nego_rep_fields).value → Pku2uNegoRep
pku2u_nego_rep_of x = record { metadata = x.0 }

abbrev pub pku2u_nego_rep : Codec
pku2u_nego_rep = coded pku2u_nego_rep_fields pku2u_nego_rep_to

pub pku2u_nego_rep_tie : (schema : Schema) (k : IsKerberos schema) (levels : ℕ) → Tie schema k (suc (suc (suc (suc levels)))) 102 pku2u_nego_rep
unfolding cases fields shapes
pku2u_nego_rep_tie schema k levels =
    coded_tie schema k (suc (suc (suc (suc levels)))) 102 pku2u_nego_rep_fields pku2u_nego_rep_to pku2u_nego_rep_of (λ x. refl)
    (sequence_tie schema k (suc (suc (suc levels))) 102 48 175 1 _ _ refl (lit≤ tt) refl
    (required_tie schema k _ _ _ _ _ _ _ _ _ (list_tie schema k (suc (suc levels)) 100 98 false _ refl (pku2u_nego_req_metadata_tie schema k levels))
    (end_tie schema k _)))

abbrev pub pku2u_nego_rep_octets : Pku2uNegoRep → List ℕ
pku2u_nego_rep_octets v = sequence (explicit 0 ((asn1_sequence_of pku2u_nego_req_metadata_octets) v.metadata))

pub pku2u_nego_rep_same : (v : Pku2uNegoRep) → pku2u_nego_rep_octets v ≡ pku2u_nego_rep.enc v
pku2u_nego_rep_same v =
    let e0 = (ap (tlv 48) (flat_map_same (λ x0. (pku2u_nego_req_metadata_same x0)) v.metadata)) in
    let whole : pku2u_nego_rep_octets v ≡ tlv 48 (tlv 160 ((sequence_of pku2u_nego_req_metadata).enc v.metadata)) =
    rw (e0) (refl) in
    whole ∙ ap (λ (o : List ℕ). tlv 48 (o)) (sym (append-nil (tlv 160 ((sequence_of pku2u_nego_req_metadata).enc v.metadata))))

abbrev pub pku2u_nego_rep_value : Pku2uNegoRep → Type 0
pku2u_nego_rep_value v = (AllByRecursion pku2u_nego_req_metadata_value) v.metadata

pub pku2u_nego_rep_valid : (v : Pku2uNegoRep) → pku2u_nego_rep_value v → pku2u_nego_rep.valid v
pku2u_nego_rep_valid v h = ((all_as {P = pku2u_nego_req_metadata_value} {Q = pku2u_nego_req_metadata.valid} (λ x0 k0. (pku2u_nego_req_metadata_valid x0 k0)) v.metadata h), tt)

pub pku2u_nego_rep_right : (v : Pku2uNegoRep) → pku2u_nego_rep.valid v → pku2u_nego_rep_value v
pku2u_nego_rep_right v h = (all_as {P = pku2u_nego_req_metadata.valid} {Q = pku2u_nego_req_metadata_value} (λ x0 k0. (pku2u_nego_req_metadata_right x0 k0)) v.metadata h.0)

-- ---- ExternalPrincipalIdentifier

abbrev pub external_principal_identifier_fields : Codec
external_principal_identifier_fields = tagged 48 (maybe_bare (octets_under 128) (maybe_bare (octets_under 129) (maybe_bare (octets_under 130) end)))

abbrev pub external_principal_identifier_to : ExternalPrincipalIdentifier → (external_principal_identifier_fields).value
external_principal_identifier_to v = (v.subject_name.0, (v.issuer_and_serial_number.0, (v.subject_key_identifier.0, tt)))

abbrev pub external_principal_identifier_of : (external_principal_identifier_fields).value → ExternalPrincipalIdentifier
external_principal_identifier_of x = record { subject_name = record { 0 = x.0 }; issuer_and_serial_number = record { 0 = x.1.0 }; subject_key_identifier = record { 0 = x.1.1.0 } }

abbrev pub external_principal_identifier : Codec
external_principal_identifier = coded external_principal_identifier_fields external_principal_identifier_to

pub external_principal_identifier_tie : (schema : Schema) (k : IsKerberos schema) (levels : ℕ) → Tie schema k (suc (suc levels)) 108 external_principal_identifier
unfolding cases fields shapes
external_principal_identifier_tie schema k levels =
    coded_tie schema k (suc (suc levels)) 108 external_principal_identifier_fields external_principal_identifier_to external_principal_identifier_of (λ x. refl)
    (sequence_tie schema k (suc levels) 108 48 180 3 _ _ refl (lit≤ tt) refl
    (maybe_bare_tie schema k _ _ _ _ _ _ _ _ _ refl (λ x v. tlv_begins _ _) (octets_under_tie schema k levels 97 128 refl)
    (maybe_bare_tie schema k _ _ _ _ _ _ _ _ _ refl (λ x v. tlv_begins _ _) (octets_under_tie schema k levels 107 129 refl)
    (maybe_bare_tie schema k _ _ _ _ _ _ _ _ _ refl (λ x v. tlv_begins _ _) (octets_under_tie schema k levels 105 130 refl)
    (end_tie schema k _)))))

abbrev pub external_principal_identifier_octets : ExternalPrincipalIdentifier → List ℕ
external_principal_identifier_octets v = sequence (optional (λ x. implicit 0 x) v.subject_name.0 ++ optional (λ x. implicit 1 x) v.issuer_and_serial_number.0 ++ optional (λ x. implicit 2 x) v.subject_key_identifier.0)

pub external_principal_identifier_same : (v : ExternalPrincipalIdentifier) → external_principal_identifier_octets v ≡ external_principal_identifier.enc v
external_principal_identifier_same v = simp (append_assoc, append-nil) refl

abbrev pub external_principal_identifier_value : ExternalPrincipalIdentifier → Type 0
external_principal_identifier_value v = IfSome v.subject_name.0 IsUnder × IfSome v.issuer_and_serial_number.0 IsUnder × IfSome v.subject_key_identifier.0 IsUnder

pub external_principal_identifier_valid : (v : ExternalPrincipalIdentifier) → external_principal_identifier_value v → external_principal_identifier.valid v
external_principal_identifier_valid v h = ((some_as {P = IsUnder} {Q = (octets_under 128).valid} (λ y k. k.0) v.subject_name.0 h.0), ((some_as {P = IsUnder} {Q = (octets_under 129).valid} (λ y k. k.0) v.issuer_and_serial_number.0 h.1), ((some_as {P = IsUnder} {Q = (octets_under 130).valid} (λ y k. k.0) v.subject_key_identifier.0 h.2), tt)))

pub external_principal_identifier_right : (v : ExternalPrincipalIdentifier) → external_principal_identifier.valid v → external_principal_identifier_value v
external_principal_identifier_right v h = ((some_as {P = (octets_under 128).valid} {Q = IsUnder} (λ y k. (k, refl)) v.subject_name.0 h.0), (some_as {P = (octets_under 129).valid} {Q = IsUnder} (λ y k. (k, refl)) v.issuer_and_serial_number.0 h.1.0), (some_as {P = (octets_under 130).valid} {Q = IsUnder} (λ y k. (k, refl)) v.subject_key_identifier.0 h.1.1.0))

-- ---- PA-PK-AS-REQ

abbrev pub pa_pk_as_req_fields : Codec
pa_pk_as_req_fields = tagged 48 (bare (octets_under 128) (maybe 161 (sequence_of external_principal_identifier) (maybe_bare (octets_under 130) end)))

abbrev pub pa_pk_as_req_to : PaPkAsReq → (pa_pk_as_req_fields).value
pa_pk_as_req_to v = (v.signed_auth_pack, (v.trusted_certifiers.0, (v.kdc_pk_id.0, tt)))

abbrev pub pa_pk_as_req_of : (pa_pk_as_req_fields).value → PaPkAsReq
pa_pk_as_req_of x = record { signed_auth_pack = x.0; trusted_certifiers = record { 0 = x.1.0 }; kdc_pk_id = record { 0 = x.1.1.0 } }

abbrev pub pa_pk_as_req : Codec
pa_pk_as_req = coded pa_pk_as_req_fields pa_pk_as_req_to

pub pa_pk_as_req_tie : (schema : Schema) (k : IsKerberos schema) (levels : ℕ) → Tie schema k (suc (suc (suc (suc levels)))) 106 pa_pk_as_req
unfolding cases fields shapes
pa_pk_as_req_tie schema k levels =
    coded_tie schema k (suc (suc (suc (suc levels)))) 106 pa_pk_as_req_fields pa_pk_as_req_to pa_pk_as_req_of (λ x. refl)
    (sequence_tie schema k (suc (suc (suc levels))) 106 48 177 3 _ _ refl (lit≤ tt) refl
    (bare_tie schema k _ _ _ _ _ _ _ _ _ (λ x v. tlv_begins _ _) (octets_under_tie schema k (suc (suc levels)) 97 128 refl)
    (maybe_tie schema k _ _ _ _ _ _ _ _ _ refl (list_tie schema k (suc (suc levels)) 104 108 false _ refl (external_principal_identifier_tie schema k levels))
    (maybe_bare_tie schema k _ _ _ _ _ _ _ _ _ refl (λ x v. tlv_begins _ _) (octets_under_tie schema k (suc (suc levels)) 105 130 refl)
    (end_tie schema k _)))))

abbrev pub pa_pk_as_req_octets : PaPkAsReq → List ℕ
pa_pk_as_req_octets v = sequence (implicit 0 v.signed_auth_pack ++ optional (λ x. explicit 1 ((asn1_sequence_of external_principal_identifier_octets) x)) v.trusted_certifiers.0 ++ optional (λ x. implicit 2 x) v.kdc_pk_id.0)

pub pa_pk_as_req_same : (v : PaPkAsReq) → pa_pk_as_req_octets v ≡ pa_pk_as_req.enc v
pa_pk_as_req_same v =
    let e1 = optional_same (λ y. ap (tlv 161) (ap (tlv 48) (flat_map_same (λ x0. (external_principal_identifier_same x0)) y))) v.trusted_certifiers.0 in
    let whole : pa_pk_as_req_octets v ≡ tlv 48 ((octets_under 128).enc v.signed_auth_pack ++ (optional (λ x. tlv 161 ((sequence_of external_principal_identifier).enc x)) v.trusted_certifiers.0 ++ optional ((octets_under 130).enc) v.kdc_pk_id.0)) =
    rw (e1) (simp append_assoc refl) in
    whole ∙ ap (λ (o : List ℕ). tlv 48 ((octets_under 128).enc v.signed_auth_pack ++ (optional (λ x. tlv 161 ((sequence_of external_principal_identifier).enc x)) v.trusted_certifiers.0 ++ o))) (sym (append-nil (optional ((octets_under 130).enc) v.kdc_pk_id.0)))

abbrev pub pa_pk_as_req_value : PaPkAsReq → Type 0
pa_pk_as_req_value v = IsUnder v.signed_auth_pack × IfSome v.trusted_certifiers.0 (AllByRecursion external_principal_identifier_value) × IfSome v.kdc_pk_id.0 IsUnder

pub pa_pk_as_req_valid : (v : PaPkAsReq) → pa_pk_as_req_value v → pa_pk_as_req.valid v
pa_pk_as_req_valid v h = (h.0.0, ((some_as {P = (AllByRecursion external_principal_identifier_value)} {Q = (sequence_of external_principal_identifier).valid} (λ y k. (all_as {P = external_principal_identifier_value} {Q = external_principal_identifier.valid} (λ x0 k0. (external_principal_identifier_valid x0 k0)) y k)) v.trusted_certifiers.0 h.1), ((some_as {P = IsUnder} {Q = (octets_under 130).valid} (λ y k. k.0) v.kdc_pk_id.0 h.2), tt)))

pub pa_pk_as_req_right : (v : PaPkAsReq) → pa_pk_as_req.valid v → pa_pk_as_req_value v
pa_pk_as_req_right v h = ((h.0, refl), (some_as {P = (sequence_of external_principal_identifier).valid} {Q = (AllByRecursion external_principal_identifier_value)} (λ y k. (all_as {P = external_principal_identifier.valid} {Q = external_principal_identifier_value} (λ x0 k0. (external_principal_identifier_right x0 k0)) y k)) v.trusted_certifiers.0 h.1.0), (some_as {P = (octets_under 130).valid} {Q = IsUnder} (λ y k. (k, refl)) v.kdc_pk_id.0 h.1.1.0))

-- ---- AlgorithmIdentifier

abbrev pub algorithm_identifier_fields : Codec
algorithm_identifier_fields = tagged 48 (bare identifier (maybe_bare any end))

abbrev pub algorithm_identifier_to : AlgorithmIdentifier → (algorithm_identifier_fields).value
algorithm_identifier_to v = (v.algorithm, (v.parameters.0, tt))

abbrev pub algorithm_identifier_of : (algorithm_identifier_fields).value → AlgorithmIdentifier
algorithm_identifier_of x = record { algorithm = x.0; parameters = record { 0 = x.1.0 } }

abbrev pub algorithm_identifier : Codec
algorithm_identifier = coded algorithm_identifier_fields algorithm_identifier_to

pub algorithm_identifier_tie : (schema : Schema) (k : IsKerberos schema) (levels : ℕ) → Tie schema k (suc (suc levels)) 117 algorithm_identifier
unfolding cases fields shapes
algorithm_identifier_tie schema k levels =
    coded_tie schema k (suc (suc levels)) 117 algorithm_identifier_fields algorithm_identifier_to algorithm_identifier_of (λ x. refl)
    (sequence_tie schema k (suc levels) 117 48 200 2 _ _ refl (lit≤ tt) refl
    (bare_tie schema k _ _ _ _ _ _ _ _ _ (λ x v. tlv_begins _ _) (identifier_tie schema k levels 9 refl)
    (last_any_tie schema k _ _ _ _ _ _ any_begins (any_tie schema k levels 13 refl)
    (end_tie schema k _))))

abbrev pub algorithm_identifier_octets : AlgorithmIdentifier → List ℕ
algorithm_identifier_octets v = sequence (object_identifier v.algorithm ++ optional (λ x. x) v.parameters.0)

pub algorithm_identifier_same : (v : AlgorithmIdentifier) → algorithm_identifier_octets v ≡ algorithm_identifier.enc v
algorithm_identifier_same v = simp (append-nil) refl

abbrev pub algorithm_identifier_value : AlgorithmIdentifier → Type 0
algorithm_identifier_value v = IsArcs v.algorithm × IfSome v.parameters.0 (IsDer is_raw_first)

pub algorithm_identifier_valid : (v : AlgorithmIdentifier) → algorithm_identifier_value v → algorithm_identifier.valid v
algorithm_identifier_valid v h = (h.0, (h.1, tt))

pub algorithm_identifier_right : (v : AlgorithmIdentifier) → algorithm_identifier.valid v → algorithm_identifier_value v
algorithm_identifier_right v h = (h.0, h.1.0)

-- ---- SubjectPublicKeyInfo

abbrev pub subject_public_key_info_fields : Codec
subject_public_key_info_fields = tagged 48 (bare algorithm_identifier (bare bits end))

abbrev pub subject_public_key_info_to : SubjectPublicKeyInfo → (subject_public_key_info_fields).value
subject_public_key_info_to v = (v.algorithm, (v.subject_public_key, tt))

abbrev pub subject_public_key_info_of : (subject_public_key_info_fields).value → SubjectPublicKeyInfo
subject_public_key_info_of x = record { algorithm = x.0; subject_public_key = x.1.0 }

abbrev pub subject_public_key_info : Codec
subject_public_key_info = coded subject_public_key_info_fields subject_public_key_info_to

pub subject_public_key_info_tie : (schema : Schema) (k : IsKerberos schema) (levels : ℕ) → Tie schema k (suc (suc (suc levels))) 118 subject_public_key_info
unfolding cases fields shapes
subject_public_key_info_tie schema k levels =
    coded_tie schema k (suc (suc (suc levels))) 118 subject_public_key_info_fields subject_public_key_info_to subject_public_key_info_of (λ x. refl)
    (sequence_tie schema k (suc (suc levels)) 118 48 202 2 _ _ refl (lit≤ tt) refl
    (bare_tie schema k _ _ _ _ _ _ _ _ _ (λ x v. tlv_begins _ _) (algorithm_identifier_tie schema k levels)
    (bare_tie schema k _ _ _ _ _ _ _ _ _ (λ x v. tlv_begins _ _) (bits_tie schema k (suc levels) 4 refl)
    (end_tie schema k _))))

abbrev pub subject_public_key_info_octets : SubjectPublicKeyInfo → List ℕ
subject_public_key_info_octets v = sequence (algorithm_identifier_octets v.algorithm ++ bit_string v.subject_public_key)

pub subject_public_key_info_same : (v : SubjectPublicKeyInfo) → subject_public_key_info_octets v ≡ subject_public_key_info.enc v
subject_public_key_info_same v =
    let e0 = (algorithm_identifier_same v.algorithm) in
    let whole : subject_public_key_info_octets v ≡ tlv 48 (algorithm_identifier.enc v.algorithm ++ bits.enc v.subject_public_key) =
    rw (e0) (refl) in
    whole ∙ ap (λ (o : List ℕ). tlv 48 (algorithm_identifier.enc v.algorithm ++ o)) (sym (append-nil (bits.enc v.subject_public_key)))

abbrev pub subject_public_key_info_value : SubjectPublicKeyInfo → Type 0
subject_public_key_info_value v = algorithm_identifier_value v.algorithm × IsBits v.subject_public_key

pub subject_public_key_info_valid : (v : SubjectPublicKeyInfo) → subject_public_key_info_value v → subject_public_key_info.valid v
subject_public_key_info_valid v h = ((algorithm_identifier_valid v.algorithm h.0), (h.1, tt))

pub subject_public_key_info_right : (v : SubjectPublicKeyInfo) → subject_public_key_info.valid v → subject_public_key_info_value v
subject_public_key_info_right v h = ((algorithm_identifier_right v.algorithm h.0), h.1.0)

-- ---- ValidationParms

abbrev pub validation_params_fields : Codec
validation_params_fields = tagged 48 (bare bits (bare integer end))

abbrev pub validation_params_to : (Bits × ℤ) → (validation_params_fields).value
validation_params_to v = (v.0, (v.1, tt))

abbrev pub validation_params_of : (validation_params_fields).value → (Bits × ℤ)
validation_params_of x = (x.0, x.1.0)

abbrev pub validation_params : Codec
validation_params = coded validation_params_fields validation_params_to

pub validation_params_tie : (schema : Schema) (k : IsKerberos schema) (levels : ℕ) → Tie schema k (suc (suc levels)) 122 validation_params
unfolding cases fields shapes
validation_params_tie schema k levels =
    coded_tie schema k (suc (suc levels)) 122 validation_params_fields validation_params_to validation_params_of (λ x. refl)
    (sequence_tie schema k (suc levels) 122 48 213 2 _ _ refl (lit≤ tt) refl
    (bare_tie schema k _ _ _ _ _ _ _ _ _ (λ x v. tlv_begins _ _) (bits_tie schema k levels 4 refl)
    (bare_tie schema k _ _ _ _ _ _ _ _ _ (λ x v. tlv_begins _ _) (integer_tie schema k levels 1 refl)
    (end_tie schema k _))))

abbrev pub validation_params_octets : (Bits × ℤ) → List ℕ
validation_params_octets v = sequence (bit_string v.0 ++ integer_octets v.1)

pub validation_params_same : (v : (Bits × ℤ)) → validation_params_octets v ≡ validation_params.enc v
validation_params_same v = simp (append-nil) refl

abbrev pub validation_params_value : (Bits × ℤ) → Type 0
validation_params_value v = IsBits v.0 × IsAny v.1

pub validation_params_valid : (v : (Bits × ℤ)) → validation_params_value v → validation_params.valid v
validation_params_valid v h = (h.0, (h.1, tt))

pub validation_params_right : (v : (Bits × ℤ)) → validation_params.valid v → validation_params_value v
validation_params_right v h = (h.0, h.1.0)

-- ---- DomainParameters

abbrev pub dh_domain_parameters_fields : Codec
dh_domain_parameters_fields = tagged 48 (bare integer (bare integer (bare integer (maybe_bare integer (maybe_bare validation_params end)))))

abbrev pub dh_domain_parameters_to : DhDomainParameters → (dh_domain_parameters_fields).value
dh_domain_parameters_to v = (v.p, (v.g, (v.q, (v.j.0, (v.validation_params.0, tt)))))

abbrev pub dh_domain_parameters_of : (dh_domain_parameters_fields).value → DhDomainParameters
dh_domain_parameters_of x = record { p = x.0; g = x.1.0; q = x.1.1.0; j = record { 0 = x.1.1.1.0 }; validation_params = record { 0 = x.1.1.1.1.0 } }

abbrev pub dh_domain_parameters : Codec
dh_domain_parameters = coded dh_domain_parameters_fields dh_domain_parameters_to

pub dh_domain_parameters_tie : (schema : Schema) (k : IsKerberos schema) (levels : ℕ) → Tie schema k (suc (suc (suc levels))) 121 dh_domain_parameters
unfolding cases fields shapes
dh_domain_parameters_tie schema k levels =
    coded_tie schema k (suc (suc (suc levels))) 121 dh_domain_parameters_fields dh_domain_parameters_to dh_domain_parameters_of (λ x. refl)
    (sequence_tie schema k (suc (suc levels)) 121 48 208 5 _ _ refl (lit≤ tt) refl
    (bare_tie schema k _ _ _ _ _ _ _ _ _ (λ x v. tlv_begins _ _) (integer_tie schema k (suc levels) 1 refl)
    (bare_tie schema k _ _ _ _ _ _ _ _ _ (λ x v. tlv_begins _ _) (integer_tie schema k (suc levels) 1 refl)
    (bare_tie schema k _ _ _ _ _ _ _ _ _ (λ x v. tlv_begins _ _) (integer_tie schema k (suc levels) 1 refl)
    (maybe_bare_tie schema k _ _ _ _ _ _ _ _ _ refl (λ x v. tlv_begins _ _) (integer_tie schema k (suc levels) 1 refl)
    (maybe_bare_tie schema k _ _ _ _ _ _ _ _ _ refl (λ x v. tlv_begins _ _) (validation_params_tie schema k levels)
    (end_tie schema k _)))))))

abbrev pub dh_domain_parameters_octets : DhDomainParameters → List ℕ
dh_domain_parameters_octets v = sequence (integer_octets v.p ++ integer_octets v.g ++ integer_octets v.q ++ optional (λ x. integer_octets x) v.j.0 ++ optional (λ x. validation_params_octets x) v.validation_params.0)

pub dh_domain_parameters_same : (v : DhDomainParameters) → dh_domain_parameters_octets v ≡ dh_domain_parameters.enc v
dh_domain_parameters_same v =
    let e4 = optional_same (λ y. (validation_params_same y)) v.validation_params.0 in
    let whole : dh_domain_parameters_octets v ≡ tlv 48 (integer.enc v.p ++ (integer.enc v.g ++ (integer.enc v.q ++ (optional (integer.enc) v.j.0 ++ optional (validation_params.enc) v.validation_params.0)))) =
    rw (e4) (simp append_assoc refl) in
    whole ∙ ap (λ (o : List ℕ). tlv 48 (integer.enc v.p ++ (integer.enc v.g ++ (integer.enc v.q ++ (optional (integer.enc) v.j.0 ++ o))))) (sym (append-nil (optional (validation_params.enc) v.validation_params.0)))

abbrev pub dh_domain_parameters_value : DhDomainParameters → Type 0
dh_domain_parameters_value v = IsAny v.p × IsAny v.g × IsAny v.q × IfSome v.j.0 IsAny × IfSome v.validation_params.0 validation_params_value

pub dh_domain_parameters_valid : (v : DhDomainParameters) → dh_domain_parameters_value v → dh_domain_parameters.valid v
dh_domain_parameters_valid v h = (h.0, (h.1, (h.2, (h.3, ((some_as {P = validation_params_value} {Q = validation_params.valid} (λ y k. (validation_params_valid y k)) v.validation_params.0 h.4), tt)))))

pub dh_domain_parameters_right : (v : DhDomainParameters) → dh_domain_parameters.valid v → dh_domain_parameters_value v
dh_domain_parameters_right v h = (h.0, h.1.0, h.1.1.0, h.1.1.1.0, (some_as {P = validation_params.valid} {Q = validation_params_value} (λ y k. (validation_params_right y k)) v.validation_params.0 h.1.1.1.1.0))

-- ---- DhReqKeyInfo

abbrev pub dh_req_key_info_fields : Codec
dh_req_key_info_fields = tagged 48 (bare identifier (bare dh_domain_parameters end))

abbrev pub dh_req_key_info_to : DhReqKeyInfo → (dh_req_key_info_fields).value
dh_req_key_info_to v = (v.identifier, (v.key_info, tt))

abbrev pub dh_req_key_info_of : (dh_req_key_info_fields).value → DhReqKeyInfo
dh_req_key_info_of x = record { identifier = x.0; key_info = x.1.0 }

abbrev pub dh_req_key_info : Codec
dh_req_key_info = coded dh_req_key_info_fields dh_req_key_info_to

pub dh_req_key_info_tie : (schema : Schema) (k : IsKerberos schema) (levels : ℕ) → Tie schema k (suc (suc (suc (suc levels)))) 119 dh_req_key_info
unfolding cases fields shapes
dh_req_key_info_tie schema k levels =
    coded_tie schema k (suc (suc (suc (suc levels)))) 119 dh_req_key_info_fields dh_req_key_info_to dh_req_key_info_of (λ x. refl)
    (sequence_tie schema k (suc (suc (suc levels))) 119 48 204 2 _ _ refl (lit≤ tt) refl
    (bare_tie schema k _ _ _ _ _ _ _ _ _ (λ x v. tlv_begins _ _) (identifier_tie schema k (suc (suc levels)) 9 refl)
    (bare_tie schema k _ _ _ _ _ _ _ _ _ (λ x v. tlv_begins _ _) (dh_domain_parameters_tie schema k levels)
    (end_tie schema k _))))

abbrev pub dh_req_key_info_octets : DhReqKeyInfo → List ℕ
dh_req_key_info_octets v = sequence (object_identifier v.identifier ++ dh_domain_parameters_octets v.key_info)

pub dh_req_key_info_same : (v : DhReqKeyInfo) → dh_req_key_info_octets v ≡ dh_req_key_info.enc v
dh_req_key_info_same v =
    let e1 = (dh_domain_parameters_same v.key_info) in
    let whole : dh_req_key_info_octets v ≡ tlv 48 (identifier.enc v.identifier ++ dh_domain_parameters.enc v.key_info) =
    rw (e1) (refl) in
    whole ∙ ap (λ (o : List ℕ). tlv 48 (identifier.enc v.identifier ++ o)) (sym (append-nil (dh_domain_parameters.enc v.key_info)))

abbrev pub dh_req_key_info_value : DhReqKeyInfo → Type 0
dh_req_key_info_value v = IsArcs v.identifier × dh_domain_parameters_value v.key_info

pub dh_req_key_info_valid : (v : DhReqKeyInfo) → dh_req_key_info_value v → dh_req_key_info.valid v
dh_req_key_info_valid v h = (h.0, ((dh_domain_parameters_valid v.key_info h.1), tt))

pub dh_req_key_info_right : (v : DhReqKeyInfo) → dh_req_key_info.valid v → dh_req_key_info_value v
dh_req_key_info_right v h = (h.0, (dh_domain_parameters_right v.key_info h.1.0))

-- ---- DHSubjectPublicKeyInfo

abbrev pub dh_req_info_fields : Codec
dh_req_info_fields = tagged 48 (bare dh_req_key_info (bare bits end))

abbrev pub dh_req_info_to : DhReqInfo → (dh_req_info_fields).value
dh_req_info_to v = (v.key_info, (v.key_value, tt))

abbrev pub dh_req_info_of : (dh_req_info_fields).value → DhReqInfo
dh_req_info_of x = record { key_info = x.0; key_value = x.1.0 }

abbrev pub dh_req_info : Codec
dh_req_info = coded dh_req_info_fields dh_req_info_to

pub dh_req_info_tie : (schema : Schema) (k : IsKerberos schema) (levels : ℕ) → Tie schema k (suc (suc (suc (suc (suc levels))))) 120 dh_req_info
unfolding cases fields shapes
dh_req_info_tie schema k levels =
    coded_tie schema k (suc (suc (suc (suc (suc levels))))) 120 dh_req_info_fields dh_req_info_to dh_req_info_of (λ x. refl)
    (sequence_tie schema k (suc (suc (suc (suc levels)))) 120 48 206 2 _ _ refl (lit≤ tt) refl
    (bare_tie schema k _ _ _ _ _ _ _ _ _ (λ x v. tlv_begins _ _) (dh_req_key_info_tie schema k levels)
    (bare_tie schema k _ _ _ _ _ _ _ _ _ (λ x v. tlv_begins _ _) (bits_tie schema k (suc (suc (suc levels))) 4 refl)
    (end_tie schema k _))))

abbrev pub dh_req_info_octets : DhReqInfo → List ℕ
dh_req_info_octets v = sequence (dh_req_key_info_octets v.key_info ++ bit_string v.key_value)

pub dh_req_info_same : (v : DhReqInfo) → dh_req_info_octets v ≡ dh_req_info.enc v
dh_req_info_same v =
    let e0 = (dh_req_key_info_same v.key_info) in
    let whole : dh_req_info_octets v ≡ tlv 48 (dh_req_key_info.enc v.key_info ++ bits.enc v.key_value) =
    rw (e0) (refl) in
    whole ∙ ap (λ (o : List ℕ). tlv 48 (dh_req_key_info.enc v.key_info ++ o)) (sym (append-nil (bits.enc v.key_value)))

abbrev pub dh_req_info_value : DhReqInfo → Type 0
dh_req_info_value v = dh_req_key_info_value v.key_info × IsBits v.key_value

pub dh_req_info_valid : (v : DhReqInfo) → dh_req_info_value v → dh_req_info.valid v
dh_req_info_valid v h = ((dh_req_key_info_valid v.key_info h.0), (h.1, tt))

pub dh_req_info_right : (v : DhReqInfo) → dh_req_info.valid v → dh_req_info_value v
dh_req_info_right v h = ((dh_req_key_info_right v.key_info h.0), h.1.0)

-- ---- DHAuthPack

abbrev pub dh_auth_pack_fields : Codec
dh_auth_pack_fields = tagged 48 (required 160 pk_authenticator (maybe 161 dh_req_info (maybe 162 (sequence_of algorithm_identifier) (maybe 163 octets end))))

abbrev pub dh_auth_pack_to : (AuthPack DhReqInfo) → (dh_auth_pack_fields).value
dh_auth_pack_to v = (v.pk_authenticator, (v.client_public_value.0, (v.supported_cms_types.0, (v.client_dh_nonce.0, tt))))

abbrev pub dh_auth_pack_of : (dh_auth_pack_fields).value → (AuthPack DhReqInfo)
dh_auth_pack_of x = record { pk_authenticator = x.0; client_public_value = record { 0 = x.1.0 }; supported_cms_types = record { 0 = x.1.1.0 }; client_dh_nonce = record { 0 = x.1.1.1.0 } }

abbrev pub dh_auth_pack : Codec
dh_auth_pack = coded dh_auth_pack_fields dh_auth_pack_to

pub dh_auth_pack_tie : (schema : Schema) (k : IsKerberos schema) (levels : ℕ) → Tie schema k (suc (suc (suc (suc (suc (suc levels)))))) 110 dh_auth_pack
unfolding cases fields shapes
dh_auth_pack_tie schema k levels =
    coded_tie schema k (suc (suc (suc (suc (suc (suc levels)))))) 110 dh_auth_pack_fields dh_auth_pack_to dh_auth_pack_of (λ x. refl)
    (sequence_tie schema k (suc (suc (suc (suc (suc levels))))) 110 48 183 4 _ _ refl (lit≤ tt) refl
    (required_tie schema k _ _ _ _ _ _ _ _ _ (pk_authenticator_tie schema k (suc (suc (suc levels))))
    (maybe_tie schema k _ _ _ _ _ _ _ _ _ refl (dh_req_info_tie schema k levels)
    (maybe_tie schema k _ _ _ _ _ _ _ _ _ refl (list_tie schema k (suc (suc (suc (suc levels)))) 109 117 false _ refl (algorithm_identifier_tie schema k (suc (suc levels))))
    (maybe_tie schema k _ _ _ _ _ _ _ _ _ refl (octets_tie schema k (suc (suc (suc (suc levels)))) 6 refl)
    (end_tie schema k _))))))

abbrev pub dh_auth_pack_octets : (AuthPack DhReqInfo) → List ℕ
dh_auth_pack_octets v = sequence (explicit 0 (pk_authenticator_octets v.pk_authenticator) ++ optional (λ x. explicit 1 (dh_req_info_octets x)) v.client_public_value.0 ++ optional (λ x. explicit 2 ((asn1_sequence_of algorithm_identifier_octets) x)) v.supported_cms_types.0 ++ optional (λ x. explicit 3 (octet_string x)) v.client_dh_nonce.0)

pub dh_auth_pack_same : (v : (AuthPack DhReqInfo)) → dh_auth_pack_octets v ≡ dh_auth_pack.enc v
dh_auth_pack_same v =
    let e0 = (pk_authenticator_same v.pk_authenticator) in
    let e1 = optional_same (λ y. ap (tlv 161) (dh_req_info_same y)) v.client_public_value.0 in
    let e2 = optional_same (λ y. ap (tlv 162) (ap (tlv 48) (flat_map_same (λ x0. (algorithm_identifier_same x0)) y))) v.supported_cms_types.0 in
    let whole : dh_auth_pack_octets v ≡ tlv 48 (tlv 160 (pk_authenticator.enc v.pk_authenticator) ++ (optional (λ x. tlv 161 (dh_req_info.enc x)) v.client_public_value.0 ++ (optional (λ x. tlv 162 ((sequence_of algorithm_identifier).enc x)) v.supported_cms_types.0 ++ optional (λ x. tlv 163 (octets.enc x)) v.client_dh_nonce.0))) =
    rw (e0, e1, e2) (simp append_assoc refl) in
    whole ∙ ap (λ (o : List ℕ). tlv 48 (tlv 160 (pk_authenticator.enc v.pk_authenticator) ++ (optional (λ x. tlv 161 (dh_req_info.enc x)) v.client_public_value.0 ++ (optional (λ x. tlv 162 ((sequence_of algorithm_identifier).enc x)) v.supported_cms_types.0 ++ o)))) (sym (append-nil (optional (λ x. tlv 163 (octets.enc x)) v.client_dh_nonce.0)))

abbrev pub dh_auth_pack_value : (AuthPack DhReqInfo) → Type 0
dh_auth_pack_value v = pk_authenticator_value v.pk_authenticator × IfSome v.client_public_value.0 dh_req_info_value × IfSome v.supported_cms_types.0 (AllByRecursion algorithm_identifier_value) × IfSome v.client_dh_nonce.0 IsOctets

pub dh_auth_pack_valid : (v : (AuthPack DhReqInfo)) → dh_auth_pack_value v → dh_auth_pack.valid v
dh_auth_pack_valid v h = ((pk_authenticator_valid v.pk_authenticator h.0), ((some_as {P = dh_req_info_value} {Q = dh_req_info.valid} (λ y k. (dh_req_info_valid y k)) v.client_public_value.0 h.1), ((some_as {P = (AllByRecursion algorithm_identifier_value)} {Q = (sequence_of algorithm_identifier).valid} (λ y k. (all_as {P = algorithm_identifier_value} {Q = algorithm_identifier.valid} (λ x0 k0. (algorithm_identifier_valid x0 k0)) y k)) v.supported_cms_types.0 h.2), (h.3, tt))))

pub dh_auth_pack_right : (v : (AuthPack DhReqInfo)) → dh_auth_pack.valid v → dh_auth_pack_value v
dh_auth_pack_right v h = ((pk_authenticator_right v.pk_authenticator h.0), (some_as {P = dh_req_info.valid} {Q = dh_req_info_value} (λ y k. (dh_req_info_right y k)) v.client_public_value.0 h.1.0), (some_as {P = (sequence_of algorithm_identifier).valid} {Q = (AllByRecursion algorithm_identifier_value)} (λ y k. (all_as {P = algorithm_identifier.valid} {Q = algorithm_identifier_value} (λ x0 k0. (algorithm_identifier_right x0 k0)) y k)) v.supported_cms_types.0 h.1.1.0), h.1.1.1.0)

-- ---- ECAuthPack

abbrev pub ec_auth_pack_fields : Codec
ec_auth_pack_fields = tagged 48 (required 160 pk_authenticator (maybe 161 subject_public_key_info (maybe 162 (sequence_of algorithm_identifier) (maybe 163 octets end))))

abbrev pub ec_auth_pack_to : (AuthPack SubjectPublicKeyInfo) → (ec_auth_pack_fields).value
ec_auth_pack_to v = (v.pk_authenticator, (v.client_public_value.0, (v.supported_cms_types.0, (v.client_dh_nonce.0, tt))))

abbrev pub ec_auth_pack_of : (ec_auth_pack_fields).value → (AuthPack SubjectPublicKeyInfo)
ec_auth_pack_of x = record { pk_authenticator = x.0; client_public_value = record { 0 = x.1.0 }; supported_cms_types = record { 0 = x.1.1.0 }; client_dh_nonce = record { 0 = x.1.1.1.0 } }

abbrev pub ec_auth_pack : Codec
ec_auth_pack = coded ec_auth_pack_fields ec_auth_pack_to

pub ec_auth_pack_tie : (schema : Schema) (k : IsKerberos schema) (levels : ℕ) → Tie schema k (suc (suc (suc (suc levels)))) 111 ec_auth_pack
unfolding cases fields shapes
ec_auth_pack_tie schema k levels =
    coded_tie schema k (suc (suc (suc (suc levels)))) 111 ec_auth_pack_fields ec_auth_pack_to ec_auth_pack_of (λ x. refl)
    (sequence_tie schema k (suc (suc (suc levels))) 111 48 187 4 _ _ refl (lit≤ tt) refl
    (required_tie schema k _ _ _ _ _ _ _ _ _ (pk_authenticator_tie schema k (suc levels))
    (maybe_tie schema k _ _ _ _ _ _ _ _ _ refl (subject_public_key_info_tie schema k levels)
    (maybe_tie schema k _ _ _ _ _ _ _ _ _ refl (list_tie schema k (suc (suc levels)) 109 117 false _ refl (algorithm_identifier_tie schema k levels))
    (maybe_tie schema k _ _ _ _ _ _ _ _ _ refl (octets_tie schema k (suc (suc levels)) 6 refl)
    (end_tie schema k _))))))

abbrev pub ec_auth_pack_octets : (AuthPack SubjectPublicKeyInfo) → List ℕ
ec_auth_pack_octets v = sequence (explicit 0 (pk_authenticator_octets v.pk_authenticator) ++ optional (λ x. explicit 1 (subject_public_key_info_octets x)) v.client_public_value.0 ++ optional (λ x. explicit 2 ((asn1_sequence_of algorithm_identifier_octets) x)) v.supported_cms_types.0 ++ optional (λ x. explicit 3 (octet_string x)) v.client_dh_nonce.0)

pub ec_auth_pack_same : (v : (AuthPack SubjectPublicKeyInfo)) → ec_auth_pack_octets v ≡ ec_auth_pack.enc v
ec_auth_pack_same v =
    let e0 = (pk_authenticator_same v.pk_authenticator) in
    let e1 = optional_same (λ y. ap (tlv 161) (subject_public_key_info_same y)) v.client_public_value.0 in
    let e2 = optional_same (λ y. ap (tlv 162) (ap (tlv 48) (flat_map_same (λ x0. (algorithm_identifier_same x0)) y))) v.supported_cms_types.0 in
    let whole : ec_auth_pack_octets v ≡ tlv 48 (tlv 160 (pk_authenticator.enc v.pk_authenticator) ++ (optional (λ x. tlv 161 (subject_public_key_info.enc x)) v.client_public_value.0 ++ (optional (λ x. tlv 162 ((sequence_of algorithm_identifier).enc x)) v.supported_cms_types.0 ++ optional (λ x. tlv 163 (octets.enc x)) v.client_dh_nonce.0))) =
    rw (e0, e1, e2) (simp append_assoc refl) in
    whole ∙ ap (λ (o : List ℕ). tlv 48 (tlv 160 (pk_authenticator.enc v.pk_authenticator) ++ (optional (λ x. tlv 161 (subject_public_key_info.enc x)) v.client_public_value.0 ++ (optional (λ x. tlv 162 ((sequence_of algorithm_identifier).enc x)) v.supported_cms_types.0 ++ o)))) (sym (append-nil (optional (λ x. tlv 163 (octets.enc x)) v.client_dh_nonce.0)))

abbrev pub ec_auth_pack_value : (AuthPack SubjectPublicKeyInfo) → Type 0
ec_auth_pack_value v = pk_authenticator_value v.pk_authenticator × IfSome v.client_public_value.0 subject_public_key_info_value × IfSome v.supported_cms_types.0 (AllByRecursion algorithm_identifier_value) × IfSome v.client_dh_nonce.0 IsOctets

pub ec_auth_pack_valid : (v : (AuthPack SubjectPublicKeyInfo)) → ec_auth_pack_value v → ec_auth_pack.valid v
ec_auth_pack_valid v h = ((pk_authenticator_valid v.pk_authenticator h.0), ((some_as {P = subject_public_key_info_value} {Q = subject_public_key_info.valid} (λ y k. (subject_public_key_info_valid y k)) v.client_public_value.0 h.1), ((some_as {P = (AllByRecursion algorithm_identifier_value)} {Q = (sequence_of algorithm_identifier).valid} (λ y k. (all_as {P = algorithm_identifier_value} {Q = algorithm_identifier.valid} (λ x0 k0. (algorithm_identifier_valid x0 k0)) y k)) v.supported_cms_types.0 h.2), (h.3, tt))))

pub ec_auth_pack_right : (v : (AuthPack SubjectPublicKeyInfo)) → ec_auth_pack.valid v → ec_auth_pack_value v
ec_auth_pack_right v h = ((pk_authenticator_right v.pk_authenticator h.0), (some_as {P = subject_public_key_info.valid} {Q = subject_public_key_info_value} (λ y k. (subject_public_key_info_right y k)) v.client_public_value.0 h.1.0), (some_as {P = (sequence_of algorithm_identifier).valid} {Q = (AllByRecursion algorithm_identifier_value)} (λ y k. (all_as {P = algorithm_identifier.valid} {Q = algorithm_identifier_value} (λ x0 k0. (algorithm_identifier_right x0 k0)) y k)) v.supported_cms_types.0 h.1.1.0), h.1.1.1.0)

-- ---- DHRepInfo

abbrev pub dh_rep_info_fields : Codec
dh_rep_info_fields = tagged 48 (bare (octets_under 128) (maybe 161 octets end))

abbrev pub dh_rep_info_to : DhRepInfo → (dh_rep_info_fields).value
dh_rep_info_to v = (v.dh_signed_data, (v.server_dh_nonce.0, tt))

abbrev pub dh_rep_info_of : (dh_rep_info_fields).value → DhRepInfo
dh_rep_info_of x = record { dh_signed_data = x.0; server_dh_nonce = record { 0 = x.1.0 } }

abbrev pub dh_rep_info : Codec
dh_rep_info = coded dh_rep_info_fields dh_rep_info_to

pub dh_rep_info_tie : (schema : Schema) (k : IsKerberos schema) (levels : ℕ) → Tie schema k (suc (suc levels)) 115 dh_rep_info
unfolding cases fields shapes
dh_rep_info_tie schema k levels =
    coded_tie schema k (suc (suc levels)) 115 dh_rep_info_fields dh_rep_info_to dh_rep_info_of (λ x. refl)
    (sequence_tie schema k (suc levels) 115 48 195 2 _ _ refl (lit≤ tt) refl
    (bare_tie schema k _ _ _ _ _ _ _ _ _ (λ x v. tlv_begins _ _) (octets_under_tie schema k levels 97 128 refl)
    (maybe_tie schema k _ _ _ _ _ _ _ _ _ refl (octets_tie schema k levels 6 refl)
    (end_tie schema k _))))

abbrev pub dh_rep_info_octets : DhRepInfo → List ℕ
dh_rep_info_octets v = sequence (implicit 0 v.dh_signed_data ++ optional (λ x. explicit 1 (octet_string x)) v.server_dh_nonce.0)

pub dh_rep_info_same : (v : DhRepInfo) → dh_rep_info_octets v ≡ dh_rep_info.enc v
dh_rep_info_same v = simp (append-nil) refl

abbrev pub dh_rep_info_value : DhRepInfo → Type 0
dh_rep_info_value v = IsUnder v.dh_signed_data × IfSome v.server_dh_nonce.0 IsOctets

pub dh_rep_info_valid : (v : DhRepInfo) → dh_rep_info_value v → dh_rep_info.valid v
dh_rep_info_valid v h = (h.0.0, (h.1, tt))

pub dh_rep_info_right : (v : DhRepInfo) → dh_rep_info.valid v → dh_rep_info_value v
dh_rep_info_right v h = ((h.0, refl), h.1.0)
