-- The names of numbers, one table a kind, each with the standard that has it: a row is a number and its name.
use Rattle.std.specs.Prelude.{ℕ, ◌≤◌, ℤ, pos, negsuc, List, [], ◌∷◌, codes, Contains, All}
use Rattle.krb_registry.specs.declared.kind.Kind.{Kind}
use Rattle.krb_registry.specs.declared.kind.Kind.TheVariants.{EncryptionType, ChecksumType, NameType, MessageType, ErrorCode, PaDataType, AuthorizationDataType, AddressType}
use Rattle.krb_registry.specs.declared.kind.Kind.TheVariants.{TransitedEncodingType, LastRequestType, TicketFlag, KdcOption, ApOption, KeyUsage, PacBufferType, GssFlag}
use Rattle.krb_registry.specs.declared.kind.Kind.TheVariants.{NegotiationState, ContextFlag, TokenFlag}

-- RFC 3961, 8; RFC 3962, 7; RFC 4757; RFC 6803, 9; RFC 8009, 7; IANA, Kerberos Encryption Type Numbers
abbrev pub encryption_types : List (ℤ × List ℕ)
encryption_types =
    (pos 1, codes "des-cbc-crc")
    ∷ (pos 2, codes "des-cbc-md4")
    ∷ (pos 3, codes "des-cbc-md5")
    ∷ (pos 5, codes "des3-cbc-md5")
    ∷ (pos 7, codes "des3-cbc-sha1")
    ∷ (pos 9, codes "dsaWithSHA1-CmsOID")
    ∷ (pos 10, codes "md5WithRSAEncryption-CmsOID")
    ∷ (pos 11, codes "sha1WithRSAEncryption-CmsOID")
    ∷ (pos 12, codes "rc2CBC-EnvOID")
    ∷ (pos 13, codes "rsaEncryption-EnvOID")
    ∷ (pos 14, codes "rsaES-OAEP-ENV-OID")
    ∷ (pos 15, codes "des-ede3-cbc-Env-OID")
    ∷ (pos 16, codes "des3-cbc-sha1-kd")
    ∷ (pos 17, codes "aes128-cts-hmac-sha1-96")
    ∷ (pos 18, codes "aes256-cts-hmac-sha1-96")
    ∷ (pos 19, codes "aes128-cts-hmac-sha256-128")
    ∷ (pos 20, codes "aes256-cts-hmac-sha384-192")
    ∷ (pos 23, codes "rc4-hmac")
    ∷ (pos 24, codes "rc4-hmac-exp")
    ∷ (pos 25, codes "camellia128-cts-cmac")
    ∷ (pos 26, codes "camellia256-cts-cmac")
    ∷ (pos 65, codes "subkey-keymaterial")
    ∷ []

-- RFC 3961, 8; RFC 3962, 7; RFC 4757; RFC 6803, 9; RFC 8009, 7; IANA, Kerberos Checksum Type Numbers
abbrev pub checksum_types : List (ℤ × List ℕ)
checksum_types =
    (pos 1, codes "CRC32")
    ∷ (pos 2, codes "rsa-md4")
    ∷ (pos 3, codes "rsa-md4-des")
    ∷ (pos 4, codes "des-mac")
    ∷ (pos 5, codes "des-mac-k")
    ∷ (pos 6, codes "rsa-md4-des-k")
    ∷ (pos 7, codes "rsa-md5")
    ∷ (pos 8, codes "rsa-md5-des")
    ∷ (pos 9, codes "rsa-md5-des3")
    ∷ (pos 12, codes "hmac-sha1-des3-kd")
    ∷ (pos 13, codes "hmac-sha1-des3")
    ∷ (pos 14, codes "sha1")
    ∷ (pos 15, codes "hmac-sha1-96-aes128")
    ∷ (pos 16, codes "hmac-sha1-96-aes256")
    ∷ (pos 17, codes "cmac-camellia128")
    ∷ (pos 18, codes "cmac-camellia256")
    ∷ (pos 19, codes "hmac-sha256-128-aes128")
    ∷ (pos 20, codes "hmac-sha384-192-aes256")
    ∷ (negsuc 137, codes "KERB_CHECKSUM_HMAC_MD5")
    ∷ []

-- RFC 4120, 6.2; 11: RFC 6111; 12: RFC 5179; the negative ones: those of Windows, as krb5.h of MIT Kerberos has them
abbrev pub name_types : List (ℤ × List ℕ)
name_types =
    (pos 0, codes "NT-UNKNOWN")
    ∷ (pos 1, codes "NT-PRINCIPAL")
    ∷ (pos 2, codes "NT-SRV-INST")
    ∷ (pos 3, codes "NT-SRV-HST")
    ∷ (pos 4, codes "NT-SRV-XHST")
    ∷ (pos 5, codes "NT-UID")
    ∷ (pos 6, codes "NT-X500-PRINCIPAL")
    ∷ (pos 7, codes "NT-SMTP-NAME")
    ∷ (pos 10, codes "NT-ENTERPRISE")
    ∷ (pos 11, codes "NT-WELLKNOWN")
    ∷ (pos 12, codes "NT-SRV-HST-DOMAIN")
    ∷ (negsuc 127, codes "NT-MS-PRINCIPAL")
    ∷ (negsuc 128, codes "NT-MS-PRINCIPAL-AND-ID")
    ∷ (negsuc 129, codes "NT-ENT-PRINCIPAL-AND-ID")
    ∷ []

-- RFC 4120, 7.5.7; TGT-REQ and TGT-REP: draft-swift-win2k-krb-user2user-03
abbrev pub message_types : List (ℤ × List ℕ)
message_types =
    (pos 10, codes "AS-REQ")
    ∷ (pos 11, codes "AS-REP")
    ∷ (pos 12, codes "TGS-REQ")
    ∷ (pos 13, codes "TGS-REP")
    ∷ (pos 14, codes "AP-REQ")
    ∷ (pos 15, codes "AP-REP")
    ∷ (pos 16, codes "TGT-REQ")
    ∷ (pos 17, codes "TGT-REP")
    ∷ (pos 20, codes "KRB-SAFE")
    ∷ (pos 21, codes "KRB-PRIV")
    ∷ (pos 22, codes "KRB-CRED")
    ∷ (pos 30, codes "KRB-ERROR")
    ∷ []

-- RFC 4120, 7.5.9; 62 to 66, 70 to 81: RFC 4556, 3.1.3; 85, 86: draft-ietf-kitten-iakerb-03, 3; 90 to 93: RFC 6113; 100: RFC 8636
abbrev pub error_codes : List (ℤ × List ℕ)
error_codes =
    (pos 0, codes "KDC_ERR_NONE")
    ∷ (pos 1, codes "KDC_ERR_NAME_EXP")
    ∷ (pos 2, codes "KDC_ERR_SERVICE_EXP")
    ∷ (pos 3, codes "KDC_ERR_BAD_PVNO")
    ∷ (pos 4, codes "KDC_ERR_C_OLD_MAST_KVNO")
    ∷ (pos 5, codes "KDC_ERR_S_OLD_MAST_KVNO")
    ∷ (pos 6, codes "KDC_ERR_C_PRINCIPAL_UNKNOWN")
    ∷ (pos 7, codes "KDC_ERR_S_PRINCIPAL_UNKNOWN")
    ∷ (pos 8, codes "KDC_ERR_PRINCIPAL_NOT_UNIQUE")
    ∷ (pos 9, codes "KDC_ERR_NULL_KEY")
    ∷ (pos 10, codes "KDC_ERR_CANNOT_POSTDATE")
    ∷ (pos 11, codes "KDC_ERR_NEVER_VALID")
    ∷ (pos 12, codes "KDC_ERR_POLICY")
    ∷ (pos 13, codes "KDC_ERR_BADOPTION")
    ∷ (pos 14, codes "KDC_ERR_ETYPE_NOSUPP")
    ∷ (pos 15, codes "KDC_ERR_SUMTYPE_NOSUPP")
    ∷ (pos 16, codes "KDC_ERR_PADATA_TYPE_NOSUPP")
    ∷ (pos 17, codes "KDC_ERR_TRTYPE_NOSUPP")
    ∷ (pos 18, codes "KDC_ERR_CLIENT_REVOKED")
    ∷ (pos 19, codes "KDC_ERR_SERVICE_REVOKED")
    ∷ (pos 20, codes "KDC_ERR_TGT_REVOKED")
    ∷ (pos 21, codes "KDC_ERR_CLIENT_NOTYET")
    ∷ (pos 22, codes "KDC_ERR_SERVICE_NOTYET")
    ∷ (pos 23, codes "KDC_ERR_KEY_EXPIRED")
    ∷ (pos 24, codes "KDC_ERR_PREAUTH_FAILED")
    ∷ (pos 25, codes "KDC_ERR_PREAUTH_REQUIRED")
    ∷ (pos 26, codes "KDC_ERR_SERVER_NOMATCH")
    ∷ (pos 27, codes "KDC_ERR_MUST_USE_USER2USER")
    ∷ (pos 28, codes "KDC_ERR_PATH_NOT_ACCEPTED")
    ∷ (pos 29, codes "KDC_ERR_SVC_UNAVAILABLE")
    ∷ (pos 31, codes "KRB_AP_ERR_BAD_INTEGRITY")
    ∷ (pos 32, codes "KRB_AP_ERR_TKT_EXPIRED")
    ∷ (pos 33, codes "KRB_AP_ERR_TKT_NYV")
    ∷ (pos 34, codes "KRB_AP_ERR_REPEAT")
    ∷ (pos 35, codes "KRB_AP_ERR_NOT_US")
    ∷ (pos 36, codes "KRB_AP_ERR_BADMATCH")
    ∷ (pos 37, codes "KRB_AP_ERR_SKEW")
    ∷ (pos 38, codes "KRB_AP_ERR_BADADDR")
    ∷ (pos 39, codes "KRB_AP_ERR_BADVERSION")
    ∷ (pos 40, codes "KRB_AP_ERR_MSG_TYPE")
    ∷ (pos 41, codes "KRB_AP_ERR_MODIFIED")
    ∷ (pos 42, codes "KRB_AP_ERR_BADORDER")
    ∷ (pos 44, codes "KRB_AP_ERR_BADKEYVER")
    ∷ (pos 45, codes "KRB_AP_ERR_NOKEY")
    ∷ (pos 46, codes "KRB_AP_ERR_MUT_FAIL")
    ∷ (pos 47, codes "KRB_AP_ERR_BADDIRECTION")
    ∷ (pos 48, codes "KRB_AP_ERR_METHOD")
    ∷ (pos 49, codes "KRB_AP_ERR_BADSEQ")
    ∷ (pos 50, codes "KRB_AP_ERR_INAPP_CKSUM")
    ∷ (pos 51, codes "KRB_AP_PATH_NOT_ACCEPTED")
    ∷ (pos 52, codes "KRB_ERR_RESPONSE_TOO_BIG")
    ∷ (pos 60, codes "KRB_ERR_GENERIC")
    ∷ (pos 61, codes "KRB_ERR_FIELD_TOOLONG")
    ∷ (pos 62, codes "KDC_ERR_CLIENT_NOT_TRUSTED")
    ∷ (pos 63, codes "KDC_ERR_KDC_NOT_TRUSTED")
    ∷ (pos 64, codes "KDC_ERR_INVALID_SIG")
    ∷ (pos 65, codes "KDC_ERR_DH_KEY_PARAMETERS_NOT_ACCEPTED")
    ∷ (pos 66, codes "KDC_ERR_CERTIFICATE_MISMATCH")
    ∷ (pos 67, codes "KRB_AP_ERR_NO_TGT")
    ∷ (pos 68, codes "KDC_ERR_WRONG_REALM")
    ∷ (pos 69, codes "KRB_AP_ERR_USER_TO_USER_REQUIRED")
    ∷ (pos 70, codes "KDC_ERR_CANT_VERIFY_CERTIFICATE")
    ∷ (pos 71, codes "KDC_ERR_INVALID_CERTIFICATE")
    ∷ (pos 72, codes "KDC_ERR_REVOKED_CERTIFICATE")
    ∷ (pos 73, codes "KDC_ERR_REVOCATION_STATUS_UNKNOWN")
    ∷ (pos 74, codes "KDC_ERR_REVOCATION_STATUS_UNAVAILABLE")
    ∷ (pos 75, codes "KDC_ERR_CLIENT_NAME_MISMATCH")
    ∷ (pos 76, codes "KDC_ERR_KDC_NAME_MISMATCH")
    ∷ (pos 77, codes "KDC_ERR_INCONSISTENT_KEY_PURPOSE")
    ∷ (pos 78, codes "KDC_ERR_DIGEST_IN_CERT_NOT_ACCEPTED")
    ∷ (pos 79, codes "KDC_ERR_PA_CHECKSUM_MUST_BE_INCLUDED")
    ∷ (pos 80, codes "KDC_ERR_DIGEST_IN_SIGNED_DATA_NOT_ACCEPTED")
    ∷ (pos 81, codes "KDC_ERR_PUBLIC_KEY_ENCRYPTION_NOT_SUPPORTED")
    ∷ (pos 85, codes "KRB_AP_ERR_IAKERB_KDC_NOT_FOUND")
    ∷ (pos 86, codes "KRB_AP_ERR_IAKERB_KDC_NO_RESPONSE")
    ∷ (pos 90, codes "KDC_ERR_PREAUTH_EXPIRED")
    ∷ (pos 91, codes "KDC_ERR_MORE_PREAUTH_DATA_REQUIRED")
    ∷ (pos 92, codes "KDC_ERR_PREAUTH_BAD_AUTHENTICATION_SET")
    ∷ (pos 93, codes "KDC_ERR_UNKNOWN_CRITICAL_FAST_OPTIONS")
    ∷ (pos 100, codes "KDC_ERR_NO_ACCEPTABLE_KDF")
    ∷ []

-- RFC 4120, 7.5.2; RFC 4556, 3.1.3; RFC 6113; IANA, Pre-authentication and Typed Data, with a hyphen for each underscore; 167: MS-KILE
abbrev pub pa_data_types : List (ℤ × List ℕ)
pa_data_types =
    (pos 1, codes "PA-TGS-REQ")
    ∷ (pos 2, codes "PA-ENC-TIMESTAMP")
    ∷ (pos 3, codes "PA-PW-SALT")
    ∷ (pos 5, codes "PA-ENC-UNIX-TIME")
    ∷ (pos 6, codes "PA-SANDIA-SECUREID")
    ∷ (pos 7, codes "PA-SESAME")
    ∷ (pos 8, codes "PA-OSF-DCE")
    ∷ (pos 9, codes "PA-CYBERSAFE-SECUREID")
    ∷ (pos 10, codes "PA-AFS3-SALT")
    ∷ (pos 11, codes "PA-ETYPE-INFO")
    ∷ (pos 12, codes "PA-SAM-CHALLENGE")
    ∷ (pos 13, codes "PA-SAM-RESPONSE")
    ∷ (pos 14, codes "PA-PK-AS-REQ-OLD")
    ∷ (pos 15, codes "PA-PK-AS-REP-OLD")
    ∷ (pos 16, codes "PA-PK-AS-REQ")
    ∷ (pos 17, codes "PA-PK-AS-REP")
    ∷ (pos 18, codes "PA-PK-OCSP-RESPONSE")
    ∷ (pos 19, codes "PA-ETYPE-INFO2")
    ∷ (pos 20, codes "PA-SVR-REFERRAL-INFO")
    ∷ (pos 21, codes "PA-SAM-REDIRECT")
    ∷ (pos 22, codes "TD-PADATA")
    ∷ (pos 23, codes "PA-SAM-ETYPE-INFO")
    ∷ (pos 24, codes "PA-ALT-PRINC")
    ∷ (pos 25, codes "PA-SERVER-REFERRAL")
    ∷ (pos 30, codes "PA-SAM-CHALLENGE2")
    ∷ (pos 31, codes "PA-SAM-RESPONSE2")
    ∷ (pos 41, codes "PA-EXTRA-TGT")
    ∷ (pos 101, codes "TD-PKINIT-CMS-CERTIFICATES")
    ∷ (pos 102, codes "TD-KRB-PRINCIPAL")
    ∷ (pos 103, codes "TD-KRB-REALM")
    ∷ (pos 104, codes "TD-TRUSTED-CERTIFIERS")
    ∷ (pos 105, codes "TD-CERTIFICATE-INDEX")
    ∷ (pos 106, codes "TD-APP-DEFINED-ERROR")
    ∷ (pos 107, codes "TD-REQ-NONCE")
    ∷ (pos 108, codes "TD-REQ-SEQ")
    ∷ (pos 109, codes "TD-DH-PARAMETERS")
    ∷ (pos 111, codes "TD-CMS-DIGEST-ALGORITHMS")
    ∷ (pos 112, codes "TD-CERT-DIGEST-ALGORITHMS")
    ∷ (pos 128, codes "PA-PAC-REQUEST")
    ∷ (pos 129, codes "PA-FOR-USER")
    ∷ (pos 130, codes "PA-FOR-X509-USER")
    ∷ (pos 131, codes "PA-FOR-CHECK-DUPS")
    ∷ (pos 132, codes "PA-AS-CHECKSUM")
    ∷ (pos 133, codes "PA-FX-COOKIE")
    ∷ (pos 134, codes "PA-AUTHENTICATION-SET")
    ∷ (pos 135, codes "PA-AUTH-SET-SELECTED")
    ∷ (pos 136, codes "PA-FX-FAST")
    ∷ (pos 137, codes "PA-FX-ERROR")
    ∷ (pos 138, codes "PA-ENCRYPTED-CHALLENGE")
    ∷ (pos 141, codes "PA-OTP-CHALLENGE")
    ∷ (pos 142, codes "PA-OTP-REQUEST")
    ∷ (pos 143, codes "PA-OTP-CONFIRM")
    ∷ (pos 144, codes "PA-OTP-PIN-CHANGE")
    ∷ (pos 145, codes "PA-EPAK-AS-REQ")
    ∷ (pos 146, codes "PA-EPAK-AS-REP")
    ∷ (pos 147, codes "PA-PKINIT-KX")
    ∷ (pos 148, codes "PA-PKU2U-NAME")
    ∷ (pos 149, codes "PA-REQ-ENC-PA-REP")
    ∷ (pos 150, codes "PA-AS-FRESHNESS")
    ∷ (pos 151, codes "PA-SPAKE")
    ∷ (pos 152, codes "PA-REDHAT-IDP-OAUTH2")
    ∷ (pos 153, codes "PA-REDHAT-PASSKEY")
    ∷ (pos 161, codes "KERB-KEY-LIST-REQ")
    ∷ (pos 162, codes "KERB-KEY-LIST-REP")
    ∷ (pos 165, codes "PA-SUPPORTED-ETYPES")
    ∷ (pos 166, codes "PA-EXTENDED-ERROR")
    ∷ (pos 167, codes "PA-PAC-OPTIONS")
    ∷ []

-- RFC 4120, 7.5.4; 9: RFC 4556, 3.1.3; 70 to 72: RFC 6113; 96: RFC 7751; 97: RFC 8129; 141 to 143: MS-KILE
abbrev pub authorization_data_types : List (ℤ × List ℕ)
authorization_data_types =
    (pos 1, codes "AD-IF-RELEVANT")
    ∷ (pos 2, codes "AD-INTENDED-FOR-SERVER")
    ∷ (pos 3, codes "AD-INTENDED-FOR-APPLICATION-CLASS")
    ∷ (pos 4, codes "AD-KDC-ISSUED")
    ∷ (pos 5, codes "AD-AND-OR")
    ∷ (pos 6, codes "AD-MANDATORY-TICKET-EXTENSIONS")
    ∷ (pos 7, codes "AD-IN-TICKET-EXTENSIONS")
    ∷ (pos 8, codes "AD-MANDATORY-FOR-KDC")
    ∷ (pos 9, codes "AD-INITIAL-VERIFIED-CAS")
    ∷ (pos 64, codes "OSF-DCE")
    ∷ (pos 65, codes "SESAME")
    ∷ (pos 66, codes "AD-OSF-DCE-PKI-CERTID")
    ∷ (pos 70, codes "AD-authentication-strength")
    ∷ (pos 71, codes "AD-fx-fast-armor")
    ∷ (pos 72, codes "AD-fx-fast-used")
    ∷ (pos 96, codes "AD-CAMMAC")
    ∷ (pos 97, codes "AD-AUTHENTICATION-INDICATOR")
    ∷ (pos 128, codes "AD-WIN2K-PAC")
    ∷ (pos 129, codes "AD-ETYPE-NEGOTIATION")
    ∷ (pos 141, codes "KERB_AUTH_DATA_TOKEN_RESTRICTIONS")
    ∷ (pos 142, codes "KERB-LOCAL")
    ∷ (pos 143, codes "AD-AUTH-DATA-AP-OPTIONS")
    ∷ []

-- RFC 4120, 7.5.3
abbrev pub address_types : List (ℤ × List ℕ)
address_types =
    (pos 2, codes "IPv4")
    ∷ (pos 3, codes "Directional")
    ∷ (pos 5, codes "ChaosNet")
    ∷ (pos 6, codes "XNS")
    ∷ (pos 7, codes "ISO")
    ∷ (pos 12, codes "DECNET-Phase-IV")
    ∷ (pos 16, codes "AppleTalk-DDP")
    ∷ (pos 20, codes "NetBios")
    ∷ (pos 24, codes "IPv6")
    ∷ []

-- RFC 4120, 7.5.5
abbrev pub transited_encoding_types : List (ℤ × List ℕ)
transited_encoding_types =
    (pos 1, codes "DOMAIN-X500-COMPRESS")
    ∷ []

-- RFC 4120, 5.4.2, which gives the numbers; the names are those of Heimdal and Wireshark
abbrev pub last_request_types : List (ℤ × List ℕ)
last_request_types =
    (pos 0, codes "LR-NONE")
    ∷ (pos 1, codes "LR-INITIAL-TGT")
    ∷ (pos 2, codes "LR-INITIAL")
    ∷ (pos 3, codes "LR-ISSUE-USE-TGT")
    ∷ (pos 4, codes "LR-RENEWAL")
    ∷ (pos 5, codes "LR-REQUEST")
    ∷ (pos 6, codes "LR-PW-EXPTIME")
    ∷ (pos 7, codes "LR-ACCT-EXPTIME")
    ∷ []

-- RFC 4120, 2.8 and 5.3; enc-pa-rep: RFC 6806, 11; anonymous: RFC 8062, 3
abbrev pub ticket_flags : List (ℤ × List ℕ)
ticket_flags =
    (pos 0, codes "reserved")
    ∷ (pos 1, codes "forwardable")
    ∷ (pos 2, codes "forwarded")
    ∷ (pos 3, codes "proxiable")
    ∷ (pos 4, codes "proxy")
    ∷ (pos 5, codes "may-postdate")
    ∷ (pos 6, codes "postdated")
    ∷ (pos 7, codes "invalid")
    ∷ (pos 8, codes "renewable")
    ∷ (pos 9, codes "initial")
    ∷ (pos 10, codes "pre-authent")
    ∷ (pos 11, codes "hw-authent")
    ∷ (pos 12, codes "transited-policy-checked")
    ∷ (pos 13, codes "ok-as-delegate")
    ∷ (pos 15, codes "enc-pa-rep")
    ∷ (pos 16, codes "anonymous")
    ∷ []

-- RFC 4120, 5.4.1; canonicalize: RFC 6806, 3; request-anonymous: RFC 8062, 3; cname-in-addl-tkt: MS-SFU, 2.2.3
abbrev pub kdc_options : List (ℤ × List ℕ)
kdc_options =
    (pos 0, codes "reserved")
    ∷ (pos 1, codes "forwardable")
    ∷ (pos 2, codes "forwarded")
    ∷ (pos 3, codes "proxiable")
    ∷ (pos 4, codes "proxy")
    ∷ (pos 5, codes "allow-postdate")
    ∷ (pos 6, codes "postdated")
    ∷ (pos 7, codes "unused7")
    ∷ (pos 8, codes "renewable")
    ∷ (pos 9, codes "unused9")
    ∷ (pos 10, codes "unused10")
    ∷ (pos 11, codes "opt-hardware-auth")
    ∷ (pos 12, codes "unused12")
    ∷ (pos 13, codes "unused13")
    ∷ (pos 14, codes "cname-in-addl-tkt")
    ∷ (pos 15, codes "canonicalize")
    ∷ (pos 16, codes "request-anonymous")
    ∷ (pos 26, codes "disable-transited-check")
    ∷ (pos 27, codes "renewable-ok")
    ∷ (pos 28, codes "enc-tkt-in-skey")
    ∷ (pos 30, codes "renew")
    ∷ (pos 31, codes "validate")
    ∷ []

-- RFC 4120, 5.5.1
abbrev pub ap_options : List (ℤ × List ℕ)
ap_options =
    (pos 0, codes "reserved")
    ∷ (pos 1, codes "use-session-key")
    ∷ (pos 2, codes "mutual-required")
    ∷ []

-- 1 to 19: RFC 4120, 7.5.1; 22 to 25: RFC 4121, 2; 26, 27: MS-SFU; 41: draft-zhu-pku2u-04, 6; 42: draft-ietf-kitten-iakerb; 44: RFC 6112; 45: RFC 6560;
-- 50 to 56: RFC 6113; 64: RFC 7751; 65: RFC 9588; where these give no name, that of krb5.h of MIT Kerberos
abbrev pub key_usages : List (ℤ × List ℕ)
key_usages =
    (pos 1, codes "KRB5_KEYUSAGE_AS_REQ_PA_ENC_TS")
    ∷ (pos 2, codes "KRB5_KEYUSAGE_KDC_REP_TICKET")
    ∷ (pos 3, codes "KRB5_KEYUSAGE_AS_REP_ENCPART")
    ∷ (pos 4, codes "KRB5_KEYUSAGE_TGS_REQ_AD_SESSKEY")
    ∷ (pos 5, codes "KRB5_KEYUSAGE_TGS_REQ_AD_SUBKEY")
    ∷ (pos 6, codes "KRB5_KEYUSAGE_TGS_REQ_AUTH_CKSUM")
    ∷ (pos 7, codes "KRB5_KEYUSAGE_TGS_REQ_AUTH")
    ∷ (pos 8, codes "KRB5_KEYUSAGE_TGS_REP_ENCPART_SESSKEY")
    ∷ (pos 9, codes "KRB5_KEYUSAGE_TGS_REP_ENCPART_SUBKEY")
    ∷ (pos 10, codes "KRB5_KEYUSAGE_AP_REQ_AUTH_CKSUM")
    ∷ (pos 11, codes "KRB5_KEYUSAGE_AP_REQ_AUTH")
    ∷ (pos 12, codes "KRB5_KEYUSAGE_AP_REP_ENCPART")
    ∷ (pos 13, codes "KRB5_KEYUSAGE_KRB_PRIV_ENCPART")
    ∷ (pos 14, codes "KRB5_KEYUSAGE_KRB_CRED_ENCPART")
    ∷ (pos 15, codes "KRB5_KEYUSAGE_KRB_SAFE_CKSUM")
    ∷ (pos 19, codes "KRB5_KEYUSAGE_AD_KDCISSUED_CKSUM")
    ∷ (pos 22, codes "KG-USAGE-ACCEPTOR-SEAL")
    ∷ (pos 23, codes "KG-USAGE-ACCEPTOR-SIGN")
    ∷ (pos 24, codes "KG-USAGE-INITIATOR-SEAL")
    ∷ (pos 25, codes "KG-USAGE-INITIATOR-SIGN")
    ∷ (pos 26, codes "KRB5_KEYUSAGE_PA_S4U_X509_USER_REQUEST")
    ∷ (pos 27, codes "KRB5_KEYUSAGE_PA_S4U_X509_USER_REPLY")
    ∷ (pos 41, codes "KEY_USAGE_FINISHED")
    ∷ (pos 42, codes "KEY_USAGE_IAKERB_FINISHED")
    ∷ (pos 44, codes "KEY_USAGE_PA_PKINIT_KX")
    ∷ (pos 45, codes "KRB5_KEYUSAGE_PA_OTP_REQUEST")
    ∷ (pos 50, codes "KEY_USAGE_FAST_REQ_CHKSUM")
    ∷ (pos 51, codes "KEY_USAGE_FAST_ENC")
    ∷ (pos 52, codes "KEY_USAGE_FAST_REP")
    ∷ (pos 53, codes "KEY_USAGE_FAST_FINISHED")
    ∷ (pos 54, codes "KEY_USAGE_ENC_CHALLENGE_CLIENT")
    ∷ (pos 55, codes "KEY_USAGE_ENC_CHALLENGE_KDC")
    ∷ (pos 56, codes "KEY_USAGE_AS_REQ")
    ∷ (pos 64, codes "KRB5_KEYUSAGE_CAMMAC")
    ∷ (pos 65, codes "KEY_USAGE_SPAKE")
    ∷ []

-- MS-PAC, 2.4, which gives the numbers; the names are those of krb5.h of MIT Kerberos
abbrev pub pac_buffer_types : List (ℤ × List ℕ)
pac_buffer_types =
    (pos 1, codes "KRB5_PAC_LOGON_INFO")
    ∷ (pos 2, codes "KRB5_PAC_CREDENTIALS_INFO")
    ∷ (pos 6, codes "KRB5_PAC_SERVER_CHECKSUM")
    ∷ (pos 7, codes "KRB5_PAC_PRIVSVR_CHECKSUM")
    ∷ (pos 10, codes "KRB5_PAC_CLIENT_INFO")
    ∷ (pos 11, codes "KRB5_PAC_DELEGATION_INFO")
    ∷ (pos 12, codes "KRB5_PAC_UPN_DNS_INFO")
    ∷ (pos 13, codes "KRB5_PAC_CLIENT_CLAIMS")
    ∷ (pos 14, codes "KRB5_PAC_DEVICE_INFO")
    ∷ (pos 15, codes "KRB5_PAC_DEVICE_CLAIMS")
    ∷ (pos 16, codes "KRB5_PAC_TICKET_CHECKSUM")
    ∷ (pos 17, codes "KRB5_PAC_ATTRIBUTES_INFO")
    ∷ (pos 18, codes "KRB5_PAC_REQUESTOR")
    ∷ (pos 19, codes "KRB5_PAC_FULL_CHECKSUM")
    ∷ []

-- RFC 4121, 4.1.1.1; 17 to 19: RFC 4757, 7.1
abbrev pub gss_flags : List (ℤ × List ℕ)
gss_flags =
    (pos 17, codes "GSS_C_EXTENDED_ERROR_FLAG")
    ∷ (pos 18, codes "GSS_C_IDENTIFY_FLAG")
    ∷ (pos 19, codes "GSS_C_DCE_STYLE")
    ∷ (pos 26, codes "GSS_C_INTEG_FLAG")
    ∷ (pos 27, codes "GSS_C_CONF_FLAG")
    ∷ (pos 28, codes "GSS_C_SEQUENCE_FLAG")
    ∷ (pos 29, codes "GSS_C_REPLAY_FLAG")
    ∷ (pos 30, codes "GSS_C_MUTUAL_FLAG")
    ∷ (pos 31, codes "GSS_C_DELEG_FLAG")
    ∷ []

-- RFC 4178, 4.2.2
abbrev pub negotiation_states : List (ℤ × List ℕ)
negotiation_states =
    (pos 0, codes "accept-completed")
    ∷ (pos 1, codes "accept-incomplete")
    ∷ (pos 2, codes "reject")
    ∷ (pos 3, codes "request-mic")
    ∷ []

-- RFC 4178, 4.2.1
abbrev pub context_flags : List (ℤ × List ℕ)
context_flags =
    (pos 0, codes "delegFlag")
    ∷ (pos 1, codes "mutualFlag")
    ∷ (pos 2, codes "replayFlag")
    ∷ (pos 3, codes "sequenceFlag")
    ∷ (pos 4, codes "anonFlag")
    ∷ (pos 5, codes "confFlag")
    ∷ (pos 6, codes "integFlag")
    ∷ []

-- RFC 4121, 4.2.2
abbrev pub token_flags : List (ℤ × List ℕ)
token_flags =
    (pos 0, codes "SentByAcceptor")
    ∷ (pos 1, codes "Sealed")
    ∷ (pos 2, codes "AcceptorSubkey")
    ∷ []

-- object identifiers of mechanisms, as dotted numbers (RFC 4121; draft-swift-win2k-krb-user2user-03; MS-SPNG; MS-NLMP; MS-NEGOEX;
-- draft-ietf-kitten-iakerb-03; draft-zhu-pku2u-09; RFC 4178; the names are this library's)
unfoldable pub mechanisms : List (List ℕ × List ℕ)
mechanisms =
    (codes "1.2.840.113554.1.2.2", codes "KRB5")
    ∷ (codes "1.2.840.113554.1.2.2.3", codes "KRB5-USER-TO-USER")
    ∷ (codes "1.2.840.48018.1.2.2", codes "MS-KRB5")
    ∷ (codes "1.3.6.1.4.1.311.2.2.10", codes "NTLMSSP")
    ∷ (codes "1.3.6.1.4.1.311.2.2.30", codes "NEGOEX")
    ∷ (codes "1.3.6.1.5.2.5", codes "IAKERB")
    ∷ (codes "1.3.6.1.5.2.7", codes "PKU2U")
    ∷ (codes "1.3.6.1.5.5.2", codes "SPNEGO")
    ∷ []

-- the table of a kind
unfoldable pub table : Kind → List (ℤ × List ℕ)
table EncryptionType = encryption_types
table ChecksumType = checksum_types
table NameType = name_types
table MessageType = message_types
table ErrorCode = error_codes
table PaDataType = pa_data_types
table AuthorizationDataType = authorization_data_types
table AddressType = address_types
table TransitedEncodingType = transited_encoding_types
table LastRequestType = last_request_types
table TicketFlag = ticket_flags
table KdcOption = kdc_options
table ApOption = ap_options
table KeyUsage = key_usages
table PacBufferType = pac_buffer_types
table GssFlag = gss_flags
table NegotiationState = negotiation_states
table ContextFlag = context_flags
table TokenFlag = token_flags

-- the table of this kind has this number with this name
abbrev pub IsRow : Kind → ℤ → List ℕ → Type 0
IsRow kind number name = Contains (table kind) (number, name)

-- this mechanism has this object identifier and this name
abbrev pub IsMechanism : List ℕ → List ℕ → Type 0
IsMechanism identifier name = Contains mechanisms (identifier, name)

-- printable ASCII without blanks
abbrev pub IsPlain : List ℕ → Type 0
IsPlain name = All (λ octet. (33 ≤ octet) × (octet ≤ 126)) name
