-- Types of PKINIT, PKU2U and X.509 as readers, and their first errors.
use Rattle.std.proofs.Common.{ℕ, ℤ, suc, false, refl, lit≤}
use Rattle.krb_der_core.specs.BitString.{Bits}
use Rattle.krb_der_x509.specs.declared.x509.AlgorithmIdentifier.{AlgorithmIdentifier}
use Rattle.krb_der_x509.specs.declared.x509.SubjectPublicKeyInfo.{SubjectPublicKeyInfo}
use Rattle.krb_pkinit.specs.declared.pkinit.groups.DhDomainParameters.{DhDomainParameters}
use Rattle.krb_pkinit.specs.declared.pkinit.groups.DhReqInfo.{DhReqInfo}
use Rattle.krb_pkinit.specs.declared.pkinit.groups.DhReqKeyInfo.{DhReqKeyInfo}
use Rattle.krb_pkinit.specs.declared.pkinit.pku2u.Pku2uNegoRep.{Pku2uNegoRep}
use Rattle.krb_pkinit.specs.declared.pkinit.pku2u.Pku2uNegoReq.{Pku2uNegoReq}
use Rattle.krb_pkinit.specs.declared.pkinit.pku2u.Pku2uNegoReqMetadata.{Pku2uNegoReqMetadata}
use Rattle.krb_pkinit.specs.declared.pkinit.replies.DhRepInfo.{DhRepInfo}
use Rattle.krb_pkinit.specs.declared.pkinit.requests.AuthPack.{AuthPack}
use Rattle.krb_pkinit.specs.declared.pkinit.requests.ExternalPrincipalIdentifier.{ExternalPrincipalIdentifier}
use Rattle.krb_pkinit.specs.declared.pkinit.requests.PaPkAsReq.{PaPkAsReq}
use Rattle.krb_schema.specs.declared.shape.Schema.{Schema}
use Rattle.krb_schema.specs.Named.{IsKerberos}
use Rattle.krb_schema.specs.Types.{cases, fields, shapes}
use Rattle.krb_show_row_laws.proofs.Readers.{Fields, Reader, any, bits, explicit, five, four, identifier, integer, maybe, octets, octets_under, one, pair, sequence, sequence_of, triple}
use Rattle.krb_show_row_laws.proofs.FaultRows.{FaultTie, list_refused}
use Rattle.krb_show_row_laws.proofs.FaultFields.{bare_refused, five_refused, four_refused, maybe_bare_refused, maybe_refused, pair_refused, required_refused, sequence_refused, triple_refused}
use Rattle.krb_show_row_laws.proofs.FaultLeaves.{any_refused, bits_refused, identifier_refused, integer_refused, octets_refused, octets_under_refused}
use Rattle.krb_show_row_laws.proofs.PublicKeyRows.{pku2u_nego_req_metadata, pku2u_nego_req_metadata_tie, pku2u_nego_req_metadata_same, pku2u_nego_req_metadata_right, pku2u_nego_req, pku2u_nego_req_tie, pku2u_nego_req_same, pku2u_nego_req_right, pku2u_nego_rep, pku2u_nego_rep_tie, pku2u_nego_rep_same, pku2u_nego_rep_right, pa_pk_as_req, pa_pk_as_req_tie, pa_pk_as_req_same, pa_pk_as_req_right, external_principal_identifier, external_principal_identifier_tie, external_principal_identifier_same, external_principal_identifier_right, dh_auth_pack, dh_auth_pack_tie, dh_auth_pack_same, dh_auth_pack_right, ec_auth_pack, ec_auth_pack_tie, ec_auth_pack_same, ec_auth_pack_right, dh_rep_info, dh_rep_info_tie, dh_rep_info_same, dh_rep_info_right, algorithm_identifier, algorithm_identifier_tie, algorithm_identifier_same, algorithm_identifier_right, subject_public_key_info, subject_public_key_info_tie, subject_public_key_info_same, subject_public_key_info_right, dh_req_key_info, dh_req_key_info_tie, dh_req_key_info_same, dh_req_key_info_right, dh_req_info, dh_req_info_tie, dh_req_info_same, dh_req_info_right, dh_domain_parameters, dh_domain_parameters_tie, dh_domain_parameters_same, dh_domain_parameters_right, validation_params, validation_params_tie, validation_params_same, validation_params_right}
use Rattle.krb_show_row_laws.proofs.CertificateErrors.{pku2u_nego_body_reader, pku2u_nego_body_refused, pk_authenticator_reader, pk_authenticator_refused}

-- ---- PKU2U-NEGO-REQ-METADATA

abbrev pub pku2u_nego_req_metadata_read : Fields
pku2u_nego_req_metadata_read = one (octets_under 128)

abbrev pub pku2u_nego_req_metadata_parts : Pku2uNegoReqMetadata → (pku2u_nego_req_metadata_read).value
pku2u_nego_req_metadata_parts v = v.inner

abbrev pub pku2u_nego_req_metadata_reader : Reader
pku2u_nego_req_metadata_reader = sequence pku2u_nego_req_metadata_read pku2u_nego_req_metadata_parts

pub pku2u_nego_req_metadata_refused : (schema : Schema) (k : IsKerberos schema) (levels : ℕ) → FaultTie schema k (suc (suc levels)) 98 pku2u_nego_req_metadata_reader
unfolding cases fields shapes
pku2u_nego_req_metadata_refused schema k levels =
    sequence_refused schema k (suc levels) 98 170 1 _ pku2u_nego_req_metadata_read pku2u_nego_req_metadata_parts pku2u_nego_req_metadata (λ x. x) refl (lit≤ tt) refl
    (pku2u_nego_req_metadata_tie schema k levels) pku2u_nego_req_metadata_right pku2u_nego_req_metadata_same
    (bare_refused schema k _ _ _ _ _ _ _ _ (λ t. refl) (octets_under_refused schema k levels 97 128 refl))

-- ---- PKU2U-NEGO-REQ

abbrev pub pku2u_nego_req_read : Fields
pku2u_nego_req_read = pair (one (explicit 160 (sequence_of pku2u_nego_req_metadata_reader))) (one (explicit 161 pku2u_nego_body_reader))

abbrev pub pku2u_nego_req_parts : Pku2uNegoReq → (pku2u_nego_req_read).value
pku2u_nego_req_parts v = (v.metadata, v.body)

abbrev pub pku2u_nego_req_reader : Reader
pku2u_nego_req_reader = sequence pku2u_nego_req_read pku2u_nego_req_parts

pub pku2u_nego_req_refused : (schema : Schema) (k : IsKerberos schema) (levels : ℕ) → FaultTie schema k (suc (suc (suc (suc (suc levels))))) 101 pku2u_nego_req_reader
unfolding cases fields shapes
pku2u_nego_req_refused schema k levels =
    sequence_refused schema k (suc (suc (suc (suc levels)))) 101 173 2 _ pku2u_nego_req_read pku2u_nego_req_parts pku2u_nego_req (λ x. x) refl (lit≤ tt) refl
    (pku2u_nego_req_tie schema k levels) pku2u_nego_req_right pku2u_nego_req_same
    (pair_refused schema k _ _ _ _ _ _
    (required_refused schema k _ _ _ _ _ _ _ _ (list_refused schema k (suc (suc (suc levels))) 100 98 false _ refl (pku2u_nego_req_metadata_refused schema k (suc levels))))
    (required_refused schema k _ _ _ _ _ _ _ _ (pku2u_nego_body_refused schema k levels)))

-- ---- PKU2U-NEGO-REP

abbrev pub pku2u_nego_rep_read : Fields
pku2u_nego_rep_read = one (explicit 160 (sequence_of pku2u_nego_req_metadata_reader))

abbrev pub pku2u_nego_rep_parts : Pku2uNegoRep → (pku2u_nego_rep_read).value
pku2u_nego_rep_parts v = v.metadata

abbrev pub pku2u_nego_rep_reader : Reader
pku2u_nego_rep_reader = sequence pku2u_nego_rep_read pku2u_nego_rep_parts

pub pku2u_nego_rep_refused : (schema : Schema) (k : IsKerberos schema) (levels : ℕ) → FaultTie schema k (suc (suc (suc (suc levels)))) 102 pku2u_nego_rep_reader
unfolding cases fields shapes
pku2u_nego_rep_refused schema k levels =
    sequence_refused schema k (suc (suc (suc levels))) 102 175 1 _ pku2u_nego_rep_read pku2u_nego_rep_parts pku2u_nego_rep (λ x. x) refl (lit≤ tt) refl
    (pku2u_nego_rep_tie schema k levels) pku2u_nego_rep_right pku2u_nego_rep_same
    (required_refused schema k _ _ _ _ _ _ _ _ (list_refused schema k (suc (suc levels)) 100 98 false _ refl (pku2u_nego_req_metadata_refused schema k levels)))

-- ---- ExternalPrincipalIdentifier

abbrev pub external_principal_identifier_read : Fields
external_principal_identifier_read = triple (maybe (octets_under 128)) (maybe (octets_under 129)) (maybe (octets_under 130))

abbrev pub external_principal_identifier_parts : ExternalPrincipalIdentifier → (external_principal_identifier_read).value
external_principal_identifier_parts v = (v.subject_name, v.issuer_and_serial_number, v.subject_key_identifier)

abbrev pub external_principal_identifier_reader : Reader
external_principal_identifier_reader = sequence external_principal_identifier_read external_principal_identifier_parts

pub external_principal_identifier_refused : (schema : Schema) (k : IsKerberos schema) (levels : ℕ) → FaultTie schema k (suc (suc levels)) 108 external_principal_identifier_reader
unfolding cases fields shapes
external_principal_identifier_refused schema k levels =
    sequence_refused schema k (suc levels) 108 180 3 _ external_principal_identifier_read external_principal_identifier_parts external_principal_identifier (λ x. x) refl (lit≤ tt) refl
    (external_principal_identifier_tie schema k levels) external_principal_identifier_right external_principal_identifier_same
    (triple_refused schema k _ _ _ _ _ _ _ _
    (maybe_bare_refused schema k _ _ _ _ _ _ _ _ (λ t. refl) (octets_under_refused schema k levels 97 128 refl))
    (maybe_bare_refused schema k _ _ _ _ _ _ _ _ (λ t. refl) (octets_under_refused schema k levels 107 129 refl))
    (maybe_bare_refused schema k _ _ _ _ _ _ _ _ (λ t. refl) (octets_under_refused schema k levels 105 130 refl)))

-- ---- PA-PK-AS-REQ

abbrev pub pa_pk_as_req_read : Fields
pa_pk_as_req_read = triple
    (one (octets_under 128))
    (maybe (explicit 161 (sequence_of external_principal_identifier_reader)))
    (maybe (octets_under 130))

abbrev pub pa_pk_as_req_parts : PaPkAsReq → (pa_pk_as_req_read).value
pa_pk_as_req_parts v = (v.signed_auth_pack, v.trusted_certifiers, v.kdc_pk_id)

abbrev pub pa_pk_as_req_reader : Reader
pa_pk_as_req_reader = sequence pa_pk_as_req_read pa_pk_as_req_parts

pub pa_pk_as_req_refused : (schema : Schema) (k : IsKerberos schema) (levels : ℕ) → FaultTie schema k (suc (suc (suc (suc levels)))) 106 pa_pk_as_req_reader
unfolding cases fields shapes
pa_pk_as_req_refused schema k levels =
    sequence_refused schema k (suc (suc (suc levels))) 106 177 3 _ pa_pk_as_req_read pa_pk_as_req_parts pa_pk_as_req (λ x. x) refl (lit≤ tt) refl
    (pa_pk_as_req_tie schema k levels) pa_pk_as_req_right pa_pk_as_req_same
    (triple_refused schema k _ _ _ _ _ _ _ _
    (bare_refused schema k _ _ _ _ _ _ _ _ (λ t. refl) (octets_under_refused schema k (suc (suc levels)) 97 128 refl))
    (maybe_refused schema k _ _ _ _ _ _ _ _ (list_refused schema k (suc (suc levels)) 104 108 false _ refl (external_principal_identifier_refused schema k levels)))
    (maybe_bare_refused schema k _ _ _ _ _ _ _ _ (λ t. refl) (octets_under_refused schema k (suc (suc levels)) 105 130 refl)))

-- ---- AlgorithmIdentifier

abbrev pub algorithm_identifier_read : Fields
algorithm_identifier_read = pair (one identifier) (maybe any)

abbrev pub algorithm_identifier_parts : AlgorithmIdentifier → (algorithm_identifier_read).value
algorithm_identifier_parts v = (v.algorithm, v.parameters)

abbrev pub algorithm_identifier_reader : Reader
algorithm_identifier_reader = sequence algorithm_identifier_read algorithm_identifier_parts

pub algorithm_identifier_refused : (schema : Schema) (k : IsKerberos schema) (levels : ℕ) → FaultTie schema k (suc (suc levels)) 117 algorithm_identifier_reader
unfolding cases fields shapes
algorithm_identifier_refused schema k levels =
    sequence_refused schema k (suc levels) 117 200 2 _ algorithm_identifier_read algorithm_identifier_parts algorithm_identifier (λ x. x) refl (lit≤ tt) refl
    (algorithm_identifier_tie schema k levels) algorithm_identifier_right algorithm_identifier_same
    (pair_refused schema k _ _ _ _ _ _
    (bare_refused schema k _ _ _ _ _ _ _ _ (λ t. refl) (identifier_refused schema k levels 9 refl))
    (maybe_bare_refused schema k _ _ _ _ _ _ _ _ (λ t. refl) (any_refused schema k levels 13 refl)))

-- ---- SubjectPublicKeyInfo

abbrev pub subject_public_key_info_read : Fields
subject_public_key_info_read = pair (one algorithm_identifier_reader) (one bits)

abbrev pub subject_public_key_info_parts : SubjectPublicKeyInfo → (subject_public_key_info_read).value
subject_public_key_info_parts v = (v.algorithm, v.subject_public_key)

abbrev pub subject_public_key_info_reader : Reader
subject_public_key_info_reader = sequence subject_public_key_info_read subject_public_key_info_parts

pub subject_public_key_info_refused : (schema : Schema) (k : IsKerberos schema) (levels : ℕ) → FaultTie schema k (suc (suc (suc levels))) 118 subject_public_key_info_reader
unfolding cases fields shapes
subject_public_key_info_refused schema k levels =
    sequence_refused schema k (suc (suc levels)) 118 202 2 _ subject_public_key_info_read subject_public_key_info_parts subject_public_key_info (λ x. x) refl (lit≤ tt) refl
    (subject_public_key_info_tie schema k levels) subject_public_key_info_right subject_public_key_info_same
    (pair_refused schema k _ _ _ _ _ _
    (bare_refused schema k _ _ _ _ _ _ _ _ (λ t. refl) (algorithm_identifier_refused schema k levels))
    (bare_refused schema k _ _ _ _ _ _ _ _ (λ t. refl) (bits_refused schema k (suc levels) 4 refl)))

-- ---- ValidationParms

abbrev pub validation_params_read : Fields
validation_params_read = pair (one bits) (one integer)

abbrev pub validation_params_parts : (Bits × ℤ) → (validation_params_read).value
validation_params_parts v = (v.0, v.1)

abbrev pub validation_params_reader : Reader
validation_params_reader = sequence validation_params_read validation_params_parts

pub validation_params_refused : (schema : Schema) (k : IsKerberos schema) (levels : ℕ) → FaultTie schema k (suc (suc levels)) 122 validation_params_reader
unfolding cases fields shapes
validation_params_refused schema k levels =
    sequence_refused schema k (suc levels) 122 213 2 _ validation_params_read validation_params_parts validation_params (λ x. x) refl (lit≤ tt) refl
    (validation_params_tie schema k levels) validation_params_right validation_params_same
    (pair_refused schema k _ _ _ _ _ _
    (bare_refused schema k _ _ _ _ _ _ _ _ (λ t. refl) (bits_refused schema k levels 4 refl))
    (bare_refused schema k _ _ _ _ _ _ _ _ (λ t. refl) (integer_refused schema k levels 1 refl)))

-- ---- DomainParameters

abbrev pub dh_domain_parameters_read : Fields
dh_domain_parameters_read = five (one integer) (one integer) (one integer) (maybe integer) (maybe validation_params_reader)

abbrev pub dh_domain_parameters_parts : DhDomainParameters → (dh_domain_parameters_read).value
dh_domain_parameters_parts v = (v.p, v.g, v.q, v.j, v.validation_params)

abbrev pub dh_domain_parameters_reader : Reader
dh_domain_parameters_reader = sequence dh_domain_parameters_read dh_domain_parameters_parts

pub dh_domain_parameters_refused : (schema : Schema) (k : IsKerberos schema) (levels : ℕ) → FaultTie schema k (suc (suc (suc levels))) 121 dh_domain_parameters_reader
unfolding cases fields shapes
dh_domain_parameters_refused schema k levels =
    sequence_refused schema k (suc (suc levels)) 121 208 5 _ dh_domain_parameters_read dh_domain_parameters_parts dh_domain_parameters (λ x. x) refl (lit≤ tt) refl
    (dh_domain_parameters_tie schema k levels) dh_domain_parameters_right dh_domain_parameters_same
    (five_refused schema k _ _ _ _ _ _ _ _ _ _ _ _
    (bare_refused schema k _ _ _ _ _ _ _ _ (λ t. refl) (integer_refused schema k (suc levels) 1 refl))
    (bare_refused schema k _ _ _ _ _ _ _ _ (λ t. refl) (integer_refused schema k (suc levels) 1 refl))
    (bare_refused schema k _ _ _ _ _ _ _ _ (λ t. refl) (integer_refused schema k (suc levels) 1 refl))
    (maybe_bare_refused schema k _ _ _ _ _ _ _ _ (λ t. refl) (integer_refused schema k (suc levels) 1 refl))
    (maybe_bare_refused schema k _ _ _ _ _ _ _ _ (λ t. refl) (validation_params_refused schema k levels)))

-- ---- DhReqKeyInfo

abbrev pub dh_req_key_info_read : Fields
dh_req_key_info_read = pair (one identifier) (one dh_domain_parameters_reader)

abbrev pub dh_req_key_info_parts : DhReqKeyInfo → (dh_req_key_info_read).value
dh_req_key_info_parts v = (v.identifier, v.key_info)

abbrev pub dh_req_key_info_reader : Reader
dh_req_key_info_reader = sequence dh_req_key_info_read dh_req_key_info_parts

pub dh_req_key_info_refused : (schema : Schema) (k : IsKerberos schema) (levels : ℕ) → FaultTie schema k (suc (suc (suc (suc levels)))) 119 dh_req_key_info_reader
unfolding cases fields shapes
dh_req_key_info_refused schema k levels =
    sequence_refused schema k (suc (suc (suc levels))) 119 204 2 _ dh_req_key_info_read dh_req_key_info_parts dh_req_key_info (λ x. x) refl (lit≤ tt) refl
    (dh_req_key_info_tie schema k levels) dh_req_key_info_right dh_req_key_info_same
    (pair_refused schema k _ _ _ _ _ _
    (bare_refused schema k _ _ _ _ _ _ _ _ (λ t. refl) (identifier_refused schema k (suc (suc levels)) 9 refl))
    (bare_refused schema k _ _ _ _ _ _ _ _ (λ t. refl) (dh_domain_parameters_refused schema k levels)))

-- ---- DHSubjectPublicKeyInfo

abbrev pub dh_req_info_read : Fields
dh_req_info_read = pair (one dh_req_key_info_reader) (one bits)

abbrev pub dh_req_info_parts : DhReqInfo → (dh_req_info_read).value
dh_req_info_parts v = (v.key_info, v.key_value)

abbrev pub dh_req_info_reader : Reader
dh_req_info_reader = sequence dh_req_info_read dh_req_info_parts

pub dh_req_info_refused : (schema : Schema) (k : IsKerberos schema) (levels : ℕ) → FaultTie schema k (suc (suc (suc (suc (suc levels))))) 120 dh_req_info_reader
unfolding cases fields shapes
dh_req_info_refused schema k levels =
    sequence_refused schema k (suc (suc (suc (suc levels)))) 120 206 2 _ dh_req_info_read dh_req_info_parts dh_req_info (λ x. x) refl (lit≤ tt) refl
    (dh_req_info_tie schema k levels) dh_req_info_right dh_req_info_same
    (pair_refused schema k _ _ _ _ _ _
    (bare_refused schema k _ _ _ _ _ _ _ _ (λ t. refl) (dh_req_key_info_refused schema k levels))
    (bare_refused schema k _ _ _ _ _ _ _ _ (λ t. refl) (bits_refused schema k (suc (suc (suc levels))) 4 refl)))

-- ---- DHAuthPack

abbrev pub dh_auth_pack_read : Fields
dh_auth_pack_read = four
    (one (explicit 160 pk_authenticator_reader))
    (maybe (explicit 161 dh_req_info_reader))
    (maybe (explicit 162 (sequence_of algorithm_identifier_reader)))
    (maybe (explicit 163 octets))

abbrev pub dh_auth_pack_parts : (AuthPack DhReqInfo) → (dh_auth_pack_read).value
dh_auth_pack_parts v = (v.pk_authenticator, v.client_public_value, v.supported_cms_types, v.client_dh_nonce)

abbrev pub dh_auth_pack_reader : Reader
dh_auth_pack_reader = sequence dh_auth_pack_read dh_auth_pack_parts

pub dh_auth_pack_refused : (schema : Schema) (k : IsKerberos schema) (levels : ℕ) → FaultTie schema k (suc (suc (suc (suc (suc (suc levels)))))) 110 dh_auth_pack_reader
unfolding cases fields shapes
dh_auth_pack_refused schema k levels =
    sequence_refused schema k (suc (suc (suc (suc (suc levels))))) 110 183 4 _ dh_auth_pack_read dh_auth_pack_parts dh_auth_pack (λ x. x) refl (lit≤ tt) refl
    (dh_auth_pack_tie schema k levels) dh_auth_pack_right dh_auth_pack_same
    (four_refused schema k _ _ _ _ _ _ _ _ _ _
    (required_refused schema k _ _ _ _ _ _ _ _ (pk_authenticator_refused schema k (suc (suc (suc levels)))))
    (maybe_refused schema k _ _ _ _ _ _ _ _ (dh_req_info_refused schema k levels))
    (maybe_refused schema k _ _ _ _ _ _ _ _ (list_refused schema k (suc (suc (suc (suc levels)))) 109 117 false _ refl (algorithm_identifier_refused schema k (suc (suc levels)))))
    (maybe_refused schema k _ _ _ _ _ _ _ _ (octets_refused schema k (suc (suc (suc (suc levels)))) 6 refl)))

-- ---- ECAuthPack

abbrev pub ec_auth_pack_read : Fields
ec_auth_pack_read = four
    (one (explicit 160 pk_authenticator_reader))
    (maybe (explicit 161 subject_public_key_info_reader))
    (maybe (explicit 162 (sequence_of algorithm_identifier_reader)))
    (maybe (explicit 163 octets))

abbrev pub ec_auth_pack_parts : (AuthPack SubjectPublicKeyInfo) → (ec_auth_pack_read).value
ec_auth_pack_parts v = (v.pk_authenticator, v.client_public_value, v.supported_cms_types, v.client_dh_nonce)

abbrev pub ec_auth_pack_reader : Reader
ec_auth_pack_reader = sequence ec_auth_pack_read ec_auth_pack_parts

pub ec_auth_pack_refused : (schema : Schema) (k : IsKerberos schema) (levels : ℕ) → FaultTie schema k (suc (suc (suc (suc levels)))) 111 ec_auth_pack_reader
unfolding cases fields shapes
ec_auth_pack_refused schema k levels =
    sequence_refused schema k (suc (suc (suc levels))) 111 187 4 _ ec_auth_pack_read ec_auth_pack_parts ec_auth_pack (λ x. x) refl (lit≤ tt) refl
    (ec_auth_pack_tie schema k levels) ec_auth_pack_right ec_auth_pack_same
    (four_refused schema k _ _ _ _ _ _ _ _ _ _
    (required_refused schema k _ _ _ _ _ _ _ _ (pk_authenticator_refused schema k (suc levels)))
    (maybe_refused schema k _ _ _ _ _ _ _ _ (subject_public_key_info_refused schema k levels))
    (maybe_refused schema k _ _ _ _ _ _ _ _ (list_refused schema k (suc (suc levels)) 109 117 false _ refl (algorithm_identifier_refused schema k levels)))
    (maybe_refused schema k _ _ _ _ _ _ _ _ (octets_refused schema k (suc (suc levels)) 6 refl)))

-- ---- DHRepInfo

abbrev pub dh_rep_info_read : Fields
dh_rep_info_read = pair (one (octets_under 128)) (maybe (explicit 161 octets))

abbrev pub dh_rep_info_parts : DhRepInfo → (dh_rep_info_read).value
dh_rep_info_parts v = (v.dh_signed_data, v.server_dh_nonce)

abbrev pub dh_rep_info_reader : Reader
dh_rep_info_reader = sequence dh_rep_info_read dh_rep_info_parts

pub dh_rep_info_refused : (schema : Schema) (k : IsKerberos schema) (levels : ℕ) → FaultTie schema k (suc (suc levels)) 115 dh_rep_info_reader
unfolding cases fields shapes
dh_rep_info_refused schema k levels =
    sequence_refused schema k (suc levels) 115 195 2 _ dh_rep_info_read dh_rep_info_parts dh_rep_info (λ x. x) refl (lit≤ tt) refl
    (dh_rep_info_tie schema k levels) dh_rep_info_right dh_rep_info_same
    (pair_refused schema k _ _ _ _ _ _
    (bare_refused schema k _ _ _ _ _ _ _ _ (λ t. refl) (octets_under_refused schema k levels 97 128 refl))
    (maybe_refused schema k _ _ _ _ _ _ _ _ (octets_refused schema k levels 6 refl)))
