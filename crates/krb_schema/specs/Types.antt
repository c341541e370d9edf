-- The types of DER that this library reads (RFC 4120 and others). `docs/schema --write` writes this file from `kerberos.txt`.
use Rattle.std.specs.Prelude.{ℕ, Bool, true, false, List, [], ◌∷◌, Option, None, Some, codes}
use Rattle.krb_registry.specs.declared.kind.Kind.{Kind}
use Rattle.krb_registry.specs.declared.kind.Kind.TheVariants as kinds
use Rattle.krb_schema.specs.declared.shape.Leaf.TheVariants as leaf
use Rattle.krb_schema.specs.declared.shape.Role.{Role}
use Rattle.krb_schema.specs.declared.shape.Role.TheVariants as role
use Rattle.krb_schema.specs.declared.shape.Shape.{Shape}
use Rattle.krb_schema.specs.declared.shape.Shape.TheVariants as shape

-- what the standards call the types, and their rows
unfoldable pub types : List (List ℕ × ℕ)
types =
    (codes "BOOLEAN", 0)
    ∷ (codes "INTEGER", 1)
    ∷ (codes "UInt32", 2)
    ∷ (codes "Microseconds", 3)
    ∷ (codes "BIT STRING", 4)
    ∷ (codes "KerberosFlags", 5)
    ∷ (codes "OCTET STRING", 6)
    ∷ (codes "OCTET STRING (secret)", 7)
    ∷ (codes "OCTET STRING (cipher)", 8)
    ∷ (codes "OBJECT IDENTIFIER", 9)
    ∷ (codes "KerberosTime", 10)
    ∷ (codes "KerberosString", 11)
    ∷ (codes "KerberosString (component)", 12)
    ∷ (codes "ANY", 13)
    ∷ (codes "Realm", 11)
    ∷ (codes "PrincipalName", 15)
    ∷ (codes "HostAddress", 16)
    ∷ (codes "HostAddresses", 17)
    ∷ (codes "AuthorizationData", 20)
    ∷ (codes "AD-IF-RELEVANT (inner)", 22)
    ∷ (codes "EncryptedData", 23)
    ∷ (codes "EncryptionKey", 24)
    ∷ (codes "Checksum", 25)
    ∷ (codes "Ticket", 28)
    ∷ (codes "EncTicketPart", 30)
    ∷ (codes "TransitedEncoding", 31)
    ∷ (codes "PA-DATA", 33)
    ∷ (codes "METHOD-DATA", 34)
    ∷ (codes "PA-ENC-TS-ENC", 35)
    ∷ (codes "ETYPE-INFO2-ENTRY", 36)
    ∷ (codes "ETYPE-INFO2", 37)
    ∷ (codes "KERB-PA-PAC-REQUEST", 38)
    ∷ (codes "PA-PAC-OPTIONS", 39)
    ∷ (codes "KERB-KEY-LIST-REQ", 40)
    ∷ (codes "KERB-KEY-LIST-REP", 41)
    ∷ (codes "AS-REQ", 42)
    ∷ (codes "TGS-REQ", 43)
    ∷ (codes "KDC-REQ (AS)", 46)
    ∷ (codes "KDC-REQ (TGS)", 48)
    ∷ (codes "KDC-REQ-BODY", 51)
    ∷ (codes "AS-REP", 52)
    ∷ (codes "TGS-REP", 53)
    ∷ (codes "KDC-REP (AS)", 55)
    ∷ (codes "KDC-REP (TGS)", 57)
    ∷ (codes "EncASRepPart", 58)
    ∷ (codes "EncTGSRepPart", 59)
    ∷ (codes "EncKDCRepPart", 60)
    ∷ (codes "LastReq", 62)
    ∷ (codes "AP-REQ", 65)
    ∷ (codes "Authenticator", 67)
    ∷ (codes "AP-REP", 70)
    ∷ (codes "EncAPRepPart", 72)
    ∷ (codes "KRB-PRIV", 75)
    ∷ (codes "EncKrbPrivPart", 77)
    ∷ (codes "KRB-CRED", 80)
    ∷ (codes "EncKrbCredPart", 83)
    ∷ (codes "KrbCredInfo", 84)
    ∷ (codes "KRB-ERROR", 88)
    ∷ (codes "KERB-ERROR-DATA", 89)
    ∷ (codes "KERB-AD-RESTRICTION-ENTRY", 90)
    ∷ (codes "ChangePasswdData", 91)
    ∷ (codes "TGT-REQ", 93)
    ∷ (codes "TGT-REP", 95)
    ∷ (codes "KDC-PROXY-MESSAGE", 96)
    ∷ (codes "PKU2U-NEGO-REQ-METADATA", 98)
    ∷ (codes "PKU2U-NEGO-BODY", 99)
    ∷ (codes "PKU2U-NEGO-REQ", 101)
    ∷ (codes "PKU2U-NEGO-REP", 102)
    ∷ (codes "KRB-FINISHED", 103)
    ∷ (codes "PA-PK-AS-REQ", 106)
    ∷ (codes "ExternalPrincipalIdentifier", 108)
    ∷ (codes "DHAuthPack", 110)
    ∷ (codes "ECAuthPack", 111)
    ∷ (codes "PKAuthenticator", 112)
    ∷ (codes "PA-PK-AS-REP (dhInfo)", 113)
    ∷ (codes "PA-PK-AS-REP (encKeyPack)", 114)
    ∷ (codes "DHRepInfo", 115)
    ∷ (codes "KDCDHKeyInfo", 116)
    ∷ (codes "AlgorithmIdentifier", 117)
    ∷ (codes "SubjectPublicKeyInfo", 118)
    ∷ (codes "DHSubjectPublicKeyInfo", 120)
    ∷ (codes "DomainParameters", 121)
    ∷ (codes "ValidationParms", 122)
    ∷ (codes "TSCredentials", 124)
    ∷ (codes "TSPasswordCreds", 125)
    ∷ (codes "TSSmartCardCreds", 126)
    ∷ (codes "TSCspDataDetail", 127)
    ∷ (codes "TSRemoteGuardCreds", 129)
    ∷ (codes "TSRemoteGuardPackageCred", 130)
    ∷ (codes "NegotiationToken (negTokenInit)", 131)
    ∷ (codes "NegotiationToken (negTokenResp)", 132)
    ∷ (codes "NegTokenInit", 135)
    ∷ (codes "ContextFlags", 136)
    ∷ (codes "NegTokenResp", 138)
    ∷ (codes "AD-IF-RELEVANT", 141)
    ∷ (codes "AD-KDCIssued", 142)
    ∷ (codes "AD-AND-OR", 143)
    ∷ (codes "AD-CAMMAC", 145)
    ∷ (codes "Verifier-MAC", 146)
    ∷ (codes "AD-KDCIssued (inner)", 147)
    ∷ (codes "AD-AND-OR (inner)", 148)
    ∷ (codes "AD-CAMMAC (inner)", 149)
    ∷ []

-- the rows
unfoldable pub shapes : List Shape
shapes =
    shape.Leaf 1 leaf.Truth
    ∷ shape.Leaf 2 leaf.Integer
    ∷ shape.Leaf 2 leaf.Unsigned
    ∷ shape.Leaf 2 leaf.Microseconds
    ∷ shape.Leaf 3 leaf.Bits
    ∷ shape.Leaf 3 leaf.Flags
    ∷ shape.Leaf 4 leaf.Octets
    ∷ shape.Leaf 4 leaf.Secret
    ∷ shape.Leaf 4 leaf.Cipher
    ∷ shape.Leaf 6 leaf.Identifier
    ∷ shape.Leaf 24 leaf.Time
    ∷ shape.Leaf 27 leaf.Text
    ∷ shape.Leaf 27 leaf.Component
    ∷ shape.Any
    ∷ shape.SequenceOf 48 12 false
    ∷ shape.Sequence 48 0 2
    ∷ shape.Sequence 48 2 2
    ∷ shape.SequenceOf 48 16 true
    ∷ shape.Holding 0 5
    ∷ shape.Sequence 48 4 2
    ∷ shape.SequenceOf 48 19 true
    ∷ shape.Sequence 48 6 2
    ∷ shape.SequenceOf 48 21 true
    ∷ shape.Sequence 48 8 3
    ∷ shape.Sequence 48 11 2
    ∷ shape.Sequence 48 13 2
    ∷ shape.Leaf 2 (leaf.Number 5)
    ∷ shape.Sequence 48 15 4
    ∷ shape.Tagged 97 27
    ∷ shape.Sequence 48 19 11
    ∷ shape.Tagged 99 29
    ∷ shape.Sequence 48 30 2
    ∷ shape.Holding 5 10
    ∷ shape.Sequence 48 32 2
    ∷ shape.SequenceOf 48 33 false
    ∷ shape.Sequence 48 34 2
    ∷ shape.Sequence 48 36 3
    ∷ shape.SequenceOf 48 36 true
    ∷ shape.Sequence 48 39 1
    ∷ shape.Sequence 48 40 1
    ∷ shape.SequenceOf 48 1 false
    ∷ shape.SequenceOf 48 24 false
    ∷ shape.Tagged 106 46
    ∷ shape.Tagged 108 48
    ∷ shape.Leaf 2 (leaf.Number 10)
    ∷ shape.SequenceOf 48 33 false
    ∷ shape.Sequence 48 41 4
    ∷ shape.Leaf 2 (leaf.Number 12)
    ∷ shape.Sequence 48 45 4
    ∷ shape.SequenceOf 48 1 false
    ∷ shape.SequenceOf 48 28 false
    ∷ shape.Sequence 48 49 12
    ∷ shape.Tagged 107 55
    ∷ shape.Tagged 109 57
    ∷ shape.Leaf 2 (leaf.Number 11)
    ∷ shape.Sequence 48 61 7
    ∷ shape.Leaf 2 (leaf.Number 13)
    ∷ shape.Sequence 48 68 7
    ∷ shape.Tagged 121 60
    ∷ shape.Tagged 122 60
    ∷ shape.Sequence 48 75 13
    ∷ shape.Sequence 48 88 2
    ∷ shape.SequenceOf 48 61 false
    ∷ shape.Leaf 2 (leaf.Number 14)
    ∷ shape.Sequence 48 90 5
    ∷ shape.Tagged 110 64
    ∷ shape.Sequence 48 95 9
    ∷ shape.Tagged 98 66
    ∷ shape.Leaf 2 (leaf.Number 15)
    ∷ shape.Sequence 48 104 3
    ∷ shape.Tagged 111 69
    ∷ shape.Sequence 48 107 4
    ∷ shape.Tagged 123 71
    ∷ shape.Leaf 2 (leaf.Number 21)
    ∷ shape.Sequence 48 111 3
    ∷ shape.Tagged 117 74
    ∷ shape.Sequence 48 114 6
    ∷ shape.Tagged 124 76
    ∷ shape.Leaf 2 (leaf.Number 22)
    ∷ shape.Sequence 48 120 4
    ∷ shape.Tagged 118 79
    ∷ shape.SequenceOf 48 84 false
    ∷ shape.Sequence 48 124 6
    ∷ shape.Tagged 125 82
    ∷ shape.Sequence 48 130 11
    ∷ shape.Leaf 2 (leaf.Number 30)
    ∷ shape.Holding 15 2
    ∷ shape.Sequence 48 141 13
    ∷ shape.Tagged 126 87
    ∷ shape.Sequence 48 154 2
    ∷ shape.Sequence 48 156 2
    ∷ shape.Sequence 48 158 3
    ∷ shape.Leaf 2 (leaf.Number 16)
    ∷ shape.Sequence 48 161 3
    ∷ shape.Leaf 2 (leaf.Number 17)
    ∷ shape.Sequence 48 164 3
    ∷ shape.Sequence 48 167 3
    ∷ shape.Leaf 128 leaf.Octets
    ∷ shape.Sequence 48 170 1
    ∷ shape.Sequence 48 171 2
    ∷ shape.SequenceOf 48 98 false
    ∷ shape.Sequence 48 173 2
    ∷ shape.Sequence 48 175 1
    ∷ shape.Sequence 48 176 1
    ∷ shape.SequenceOf 48 108 false
    ∷ shape.Leaf 130 leaf.Octets
    ∷ shape.Sequence 48 177 3
    ∷ shape.Leaf 129 leaf.Octets
    ∷ shape.Sequence 48 180 3
    ∷ shape.SequenceOf 48 117 false
    ∷ shape.Sequence 48 183 4
    ∷ shape.Sequence 48 187 4
    ∷ shape.Sequence 48 191 4
    ∷ shape.Tagged 160 115
    ∷ shape.Leaf 129 leaf.Octets
    ∷ shape.Sequence 48 195 2
    ∷ shape.Sequence 48 197 3
    ∷ shape.Sequence 48 200 2
    ∷ shape.Sequence 48 202 2
    ∷ shape.Sequence 48 204 2
    ∷ shape.Sequence 48 206 2
    ∷ shape.Sequence 48 208 5
    ∷ shape.Sequence 48 213 2
    ∷ shape.Holding 17 3
    ∷ shape.Sequence 48 215 2
    ∷ shape.Sequence 48 217 3
    ∷ shape.Sequence 48 220 4
    ∷ shape.Sequence 48 224 5
    ∷ shape.SequenceOf 48 130 false
    ∷ shape.Sequence 48 229 2
    ∷ shape.Sequence 48 231 2
    ∷ shape.Tagged 160 135
    ∷ shape.Tagged 161 138
    ∷ shape.SequenceOf 48 9 false
    ∷ shape.Holding 20 3
    ∷ shape.Sequence 48 233 4
    ∷ shape.Leaf 3 leaf.Flags
    ∷ shape.Holding 23 3
    ∷ shape.Sequence 48 237 4
    ∷ shape.Holding 26 5
    ∷ shape.Sequence 48 241 2
    ∷ shape.SequenceOf 48 140 true
    ∷ shape.Sequence 48 243 4
    ∷ shape.Sequence 48 247 2
    ∷ shape.SequenceOf 48 13 true
    ∷ shape.Sequence 48 249 4
    ∷ shape.Sequence 48 253 4
    ∷ shape.Sequence 48 257 4
    ∷ shape.Sequence 48 261 2
    ∷ shape.Sequence 48 263 4
    ∷ []

-- the fields of SEQUENCEs
unfoldable pub fields : List (Option ℕ × Bool × Bool × List ℕ × Option Kind × Role × ℕ)
fields =
    (Some 160, true, false, codes "name-type", Some kinds.NameType, role.None, 1)
    ∷ (Some 161, true, false, codes "name-string", None, role.None, 14)
    ∷ (Some 160, true, false, codes "addr-type", Some kinds.AddressType, role.None, 1)
    ∷ (Some 161, true, false, codes "address", None, role.None, 6)
    ∷ (Some 160, true, false, codes "ad-type", Some kinds.AuthorizationDataType, role.None, 1)
    ∷ (Some 161, true, false, codes "ad-data", None, role.AuthorizationData, 18)
    ∷ (Some 160, true, false, codes "ad-type", Some kinds.AuthorizationDataType, role.None, 1)
    ∷ (Some 161, true, false, codes "ad-data", None, role.AuthorizationData, 6)
    ∷ (Some 160, true, false, codes "etype", Some kinds.EncryptionType, role.None, 1)
    ∷ (Some 161, true, true, codes "kvno", None, role.None, 1)
    ∷ (Some 162, true, false, codes "cipher", None, role.None, 8)
    ∷ (Some 160, true, false, codes "keytype", Some kinds.EncryptionType, role.None, 1)
    ∷ (Some 161, true, false, codes "keyvalue", None, role.Key, 7)
    ∷ (Some 160, true, false, codes "cksumtype", Some kinds.ChecksumType, role.None, 1)
    ∷ (Some 161, true, false, codes "checksum", None, role.Checksum, 6)
    ∷ (Some 160, true, false, codes "tkt-vno", None, role.None, 26)
    ∷ (Some 161, true, false, codes "realm", None, role.ServerRealm, 11)
    ∷ (Some 162, true, false, codes "sname", None, role.ServerName, 15)
    ∷ (Some 163, true, false, codes "enc-part", None, role.EncTicketPart, 23)
    ∷ (Some 160, true, false, codes "flags", Some kinds.TicketFlag, role.None, 5)
    ∷ (Some 161, true, false, codes "key", None, role.None, 24)
    ∷ (Some 162, true, false, codes "crealm", None, role.ClientRealm, 11)
    ∷ (Some 163, true, false, codes "cname", None, role.ClientName, 15)
    ∷ (Some 164, true, false, codes "transited", None, role.None, 31)
    ∷ (Some 165, true, false, codes "authtime", None, role.None, 10)
    ∷ (Some 166, true, true, codes "starttime", None, role.None, 10)
    ∷ (Some 167, true, false, codes "endtime", None, role.None, 10)
    ∷ (Some 168, true, true, codes "renew-till", None, role.None, 10)
    ∷ (Some 169, true, true, codes "caddr", None, role.None, 17)
    ∷ (Some 170, true, true, codes "authorization-data", None, role.None, 20)
    ∷ (Some 160, true, false, codes "tr-type", Some kinds.TransitedEncodingType, role.None, 1)
    ∷ (Some 161, true, false, codes "contents", None, role.None, 6)
    ∷ (Some 161, true, false, codes "padata-type", Some kinds.PaDataType, role.None, 1)
    ∷ (Some 162, true, false, codes "padata-value", None, role.PaEncTsEnc, 32)
    ∷ (Some 160, true, false, codes "patimestamp", None, role.None, 10)
    ∷ (Some 161, true, true, codes "pausec", None, role.None, 3)
    ∷ (Some 160, true, false, codes "etype", Some kinds.EncryptionType, role.None, 1)
    ∷ (Some 161, true, true, codes "salt", None, role.Salt, 11)
    ∷ (Some 162, true, true, codes "s2kparams", None, role.None, 6)
    ∷ (Some 160, true, false, codes "include-pac", None, role.None, 0)
    ∷ (Some 160, true, false, codes "flags", None, role.None, 5)
    ∷ (Some 161, true, false, codes "pvno", None, role.None, 26)
    ∷ (Some 162, true, false, codes "msg-type", Some kinds.MessageType, role.None, 44)
    ∷ (Some 163, true, true, codes "padata", None, role.None, 45)
    ∷ (Some 164, true, false, codes "req-body", None, role.None, 51)
    ∷ (Some 161, true, false, codes "pvno", None, role.None, 26)
    ∷ (Some 162, true, false, codes "msg-type", Some kinds.MessageType, role.None, 47)
    ∷ (Some 163, true, true, codes "padata", None, role.None, 45)
    ∷ (Some 164, true, false, codes "req-body", None, role.None, 51)
    ∷ (Some 160, true, false, codes "kdc-options", Some kinds.KdcOption, role.None, 5)
    ∷ (Some 161, true, true, codes "cname", None, role.ClientName, 15)
    ∷ (Some 162, true, false, codes "realm", None, role.ServerRealm, 11)
    ∷ (Some 163, true, true, codes "sname", None, role.ServerName, 15)
    ∷ (Some 164, true, true, codes "from", None, role.None, 10)
    ∷ (Some 165, true, false, codes "till", None, role.None, 10)
    ∷ (Some 166, true, true, codes "rtime", None, role.None, 10)
    ∷ (Some 167, true, false, codes "nonce", None, role.None, 1)
    ∷ (Some 168, true, false, codes "etype", Some kinds.EncryptionType, role.None, 49)
    ∷ (Some 169, true, true, codes "addresses", None, role.None, 17)
    ∷ (Some 170, true, true, codes "enc-authorization-data", None, role.RequestAuthorizationData, 23)
    ∷ (Some 171, true, true, codes "additional-tickets", None, role.None, 50)
    ∷ (Some 160, true, false, codes "pvno", None, role.None, 26)
    ∷ (Some 161, true, false, codes "msg-type", Some kinds.MessageType, role.None, 54)
    ∷ (Some 162, true, true, codes "padata", None, role.None, 45)
    ∷ (Some 163, true, false, codes "crealm", None, role.ClientRealm, 11)
    ∷ (Some 164, true, false, codes "cname", None, role.ClientName, 15)
    ∷ (Some 165, true, false, codes "ticket", None, role.None, 28)
    ∷ (Some 166, true, false, codes "enc-part", None, role.EncAsRepPart, 23)
    ∷ (Some 160, true, false, codes "pvno", None, role.None, 26)
    ∷ (Some 161, true, false, codes "msg-type", Some kinds.MessageType, role.None, 56)
    ∷ (Some 162, true, true, codes "padata", None, role.None, 45)
    ∷ (Some 163, true, false, codes "crealm", None, role.ClientRealm, 11)
    ∷ (Some 164, true, false, codes "cname", None, role.ClientName, 15)
    ∷ (Some 165, true, false, codes "ticket", None, role.None, 28)
    ∷ (Some 166, true, false, codes "enc-part", None, role.EncTgsRepPart, 23)
    ∷ (Some 160, true, false, codes "key", None, role.None, 24)
    ∷ (Some 161, true, false, codes "last-req", None, role.None, 62)
    ∷ (Some 162, true, false, codes "nonce", None, role.None, 1)
    ∷ (Some 163, true, true, codes "key-expiration", None, role.None, 10)
    ∷ (Some 164, true, false, codes "flags", Some kinds.TicketFlag, role.None, 5)
    ∷ (Some 165, true, false, codes "authtime", None, role.None, 10)
    ∷ (Some 166, true, true, codes "starttime", None, role.None, 10)
    ∷ (Some 167, true, false, codes "endtime", None, role.None, 10)
    ∷ (Some 168, true, true, codes "renew-till", None, role.None, 10)
    ∷ (Some 169, true, false, codes "srealm", None, role.None, 11)
    ∷ (Some 170, true, false, codes "sname", None, role.None, 15)
    ∷ (Some 171, true, true, codes "caddr", None, role.None, 17)
    ∷ (Some 172, true, true, codes "encrypted-pa-data", None, role.None, 45)
    ∷ (Some 160, true, false, codes "lr-type", Some kinds.LastRequestType, role.None, 1)
    ∷ (Some 161, true, false, codes "lr-value", None, role.None, 10)
    ∷ (Some 160, true, false, codes "pvno", None, role.None, 26)
    ∷ (Some 161, true, false, codes "msg-type", Some kinds.MessageType, role.None, 63)
    ∷ (Some 162, true, false, codes "ap-options", Some kinds.ApOption, role.None, 5)
    ∷ (Some 163, true, false, codes "ticket", None, role.None, 28)
    ∷ (Some 164, true, false, codes "authenticator", None, role.Authenticator, 23)
    ∷ (Some 160, true, false, codes "authenticator-vno", None, role.None, 26)
    ∷ (Some 161, true, false, codes "crealm", None, role.ClientRealm, 11)
    ∷ (Some 162, true, false, codes "cname", None, role.ClientName, 15)
    ∷ (Some 163, true, true, codes "cksum", None, role.None, 25)
    ∷ (Some 164, true, false, codes "cusec", None, role.None, 3)
    ∷ (Some 165, true, false, codes "ctime", None, role.None, 10)
    ∷ (Some 166, true, true, codes "subkey", None, role.None, 24)
    ∷ (Some 167, true, true, codes "seq-number", None, role.None, 1)
    ∷ (Some 168, true, true, codes "authorization-data", None, role.None, 20)
    ∷ (Some 160, true, false, codes "pvno", None, role.None, 26)
    ∷ (Some 161, true, false, codes "msg-type", Some kinds.MessageType, role.None, 68)
    ∷ (Some 162, true, false, codes "enc-part", None, role.EncApRepPart, 23)
    ∷ (Some 160, true, false, codes "ctime", None, role.None, 10)
    ∷ (Some 161, true, false, codes "cusec", None, role.None, 3)
    ∷ (Some 162, true, true, codes "subkey", None, role.None, 24)
    ∷ (Some 163, true, true, codes "seq-number", None, role.None, 1)
    ∷ (Some 160, true, false, codes "pvno", None, role.None, 26)
    ∷ (Some 161, true, false, codes "msg-type", Some kinds.MessageType, role.None, 73)
    ∷ (Some 163, true, false, codes "enc-part", None, role.EncKrbPrivPart, 23)
    ∷ (Some 160, true, false, codes "user-data", None, role.None, 7)
    ∷ (Some 161, true, true, codes "timestamp", None, role.None, 10)
    ∷ (Some 162, true, true, codes "usec", None, role.None, 3)
    ∷ (Some 163, true, true, codes "seq-number", None, role.None, 1)
    ∷ (Some 164, true, false, codes "s-address", None, role.None, 16)
    ∷ (Some 165, true, true, codes "r-address", None, role.None, 16)
    ∷ (Some 160, true, false, codes "pvno", None, role.None, 26)
    ∷ (Some 161, true, false, codes "msg-type", Some kinds.MessageType, role.None, 78)
    ∷ (Some 162, true, false, codes "tickets", None, role.None, 50)
    ∷ (Some 163, true, false, codes "enc-part", None, role.EncKrbCredPart, 23)
    ∷ (Some 160, true, false, codes "ticket-info", None, role.None, 81)
    ∷ (Some 161, true, true, codes "nonce", None, role.None, 1)
    ∷ (Some 162, true, true, codes "timestamp", None, role.None, 10)
    ∷ (Some 163, true, true, codes "usec", None, role.None, 3)
    ∷ (Some 164, true, true, codes "s-address", None, role.None, 16)
    ∷ (Some 165, true, true, codes "r-address", None, role.None, 16)
    ∷ (Some 160, true, false, codes "key", None, role.None, 24)
    ∷ (Some 161, true, true, codes "prealm", None, role.None, 11)
    ∷ (Some 162, true, true, codes "pname", None, role.None, 15)
    ∷ (Some 163, true, true, codes "flags", Some kinds.TicketFlag, role.None, 5)
    ∷ (Some 164, true, true, codes "authtime", None, role.None, 10)
    ∷ (Some 165, true, true, codes "starttime", None, role.None, 10)
    ∷ (Some 166, true, true, codes "endtime", None, role.None, 10)
    ∷ (Some 167, true, true, codes "renew-till", None, role.None, 10)
    ∷ (Some 168, true, true, codes "srealm", None, role.None, 11)
    ∷ (Some 169, true, true, codes "sname", None, role.None, 15)
    ∷ (Some 170, true, true, codes "caddr", None, role.None, 17)
    ∷ (Some 160, true, false, codes "pvno", None, role.None, 26)
    ∷ (Some 161, true, false, codes "msg-type", Some kinds.MessageType, role.None, 85)
    ∷ (Some 162, true, true, codes "ctime", None, role.None, 10)
    ∷ (Some 163, true, true, codes "cusec", None, role.None, 3)
    ∷ (Some 164, true, false, codes "stime", None, role.None, 10)
    ∷ (Some 165, true, false, codes "susec", None, role.None, 3)
    ∷ (Some 166, true, false, codes "error-code", Some kinds.ErrorCode, role.None, 2)
    ∷ (Some 167, true, true, codes "crealm", None, role.ClientRealm, 11)
    ∷ (Some 168, true, true, codes "cname", None, role.ClientName, 15)
    ∷ (Some 169, true, false, codes "realm", None, role.ServerRealm, 11)
    ∷ (Some 170, true, false, codes "sname", None, role.ServerName, 15)
    ∷ (Some 171, true, true, codes "e-text", None, role.None, 11)
    ∷ (Some 172, true, true, codes "e-data", None, role.None, 86)
    ∷ (Some 161, true, false, codes "data-type", None, role.None, 1)
    ∷ (Some 162, true, true, codes "data-value", None, role.None, 6)
    ∷ (Some 160, true, false, codes "restriction-type", None, role.None, 1)
    ∷ (Some 161, true, false, codes "restriction", None, role.None, 6)
    ∷ (Some 160, true, false, codes "newpasswd", None, role.None, 7)
    ∷ (Some 161, true, true, codes "targname", None, role.None, 15)
    ∷ (Some 162, true, true, codes "targrealm", None, role.None, 11)
    ∷ (Some 160, true, false, codes "pvno", None, role.None, 26)
    ∷ (Some 161, true, false, codes "msg-type", Some kinds.MessageType, role.None, 92)
    ∷ (Some 162, true, false, codes "server-name", None, role.None, 15)
    ∷ (Some 160, true, false, codes "pvno", None, role.None, 26)
    ∷ (Some 161, true, false, codes "msg-type", Some kinds.MessageType, role.None, 94)
    ∷ (Some 162, true, false, codes "ticket", None, role.None, 28)
    ∷ (Some 160, true, false, codes "kerb-message", None, role.PrefixedMessage, 6)
    ∷ (Some 161, true, true, codes "target-domain", None, role.None, 11)
    ∷ (Some 162, true, true, codes "dclocator-hint", None, role.None, 1)
    ∷ (Some 128, false, false, codes "inner", None, role.None, 97)
    ∷ (Some 160, true, false, codes "realm", None, role.ServerRealm, 11)
    ∷ (Some 161, true, false, codes "sname", None, role.ServerName, 15)
    ∷ (Some 160, true, false, codes "metadata", None, role.None, 100)
    ∷ (Some 161, true, false, codes "body", None, role.None, 99)
    ∷ (Some 160, true, false, codes "metadata", None, role.None, 100)
    ∷ (Some 161, true, false, codes "gss-mic", None, role.None, 25)
    ∷ (Some 128, false, false, codes "signedAuthPack", None, role.None, 97)
    ∷ (Some 161, true, true, codes "trustedCertifiers", None, role.None, 104)
    ∷ (Some 130, false, true, codes "kdcPkId", None, role.None, 105)
    ∷ (Some 128, false, true, codes "subjectName", None, role.None, 97)
    ∷ (Some 129, false, true, codes "issuerAndSerialNumber", None, role.None, 107)
    ∷ (Some 130, false, true, codes "subjectKeyIdentifier", None, role.None, 105)
    ∷ (Some 160, true, false, codes "pkAuthenticator", None, role.None, 112)
    ∷ (Some 161, true, true, codes "clientPublicValue", None, role.None, 120)
    ∷ (Some 162, true, true, codes "supportedCMSTypes", None, role.None, 109)
    ∷ (Some 163, true, true, codes "clientDHNonce", None, role.None, 6)
    ∷ (Some 160, true, false, codes "pkAuthenticator", None, role.None, 112)
    ∷ (Some 161, true, true, codes "clientPublicValue", None, role.None, 118)
    ∷ (Some 162, true, true, codes "supportedCMSTypes", None, role.None, 109)
    ∷ (Some 163, true, true, codes "clientDHNonce", None, role.None, 6)
    ∷ (Some 160, true, false, codes "cusec", None, role.None, 3)
    ∷ (Some 161, true, false, codes "ctime", None, role.None, 10)
    ∷ (Some 162, true, false, codes "nonce", None, role.None, 1)
    ∷ (Some 163, true, true, codes "paChecksum", None, role.None, 6)
    ∷ (Some 128, false, false, codes "dhSignedData", None, role.None, 97)
    ∷ (Some 161, true, true, codes "serverDHNonce", None, role.None, 6)
    ∷ (Some 160, true, false, codes "subjectPublicKey", None, role.None, 4)
    ∷ (Some 161, true, false, codes "nonce", None, role.None, 1)
    ∷ (Some 162, true, true, codes "dhKeyExpiration", None, role.None, 10)
    ∷ (Some 6, false, false, codes "algorithm", None, role.None, 9)
    ∷ (None, false, true, codes "parameters", None, role.None, 13)
    ∷ (Some 48, false, false, codes "algorithm", None, role.None, 117)
    ∷ (Some 3, false, false, codes "subjectPublicKey", None, role.None, 4)
    ∷ (Some 6, false, false, codes "algorithm", None, role.None, 9)
    ∷ (Some 48, false, false, codes "parameters", None, role.None, 121)
    ∷ (Some 48, false, false, codes "algorithm", None, role.None, 119)
    ∷ (Some 3, false, false, codes "subjectPublicKey", None, role.None, 4)
    ∷ (Some 2, false, false, codes "p", None, role.None, 1)
    ∷ (Some 2, false, false, codes "g", None, role.None, 1)
    ∷ (Some 2, false, false, codes "q", None, role.None, 1)
    ∷ (Some 2, false, true, codes "j", None, role.None, 1)
    ∷ (Some 48, false, true, codes "validationParms", None, role.None, 122)
    ∷ (Some 3, false, false, codes "seed", None, role.None, 4)
    ∷ (Some 2, false, false, codes "pgenCounter", None, role.None, 1)
    ∷ (Some 160, true, false, codes "credType", None, role.None, 1)
    ∷ (Some 161, true, false, codes "credentials", None, role.None, 123)
    ∷ (Some 160, true, false, codes "domainName", None, role.None, 6)
    ∷ (Some 161, true, false, codes "userName", None, role.None, 6)
    ∷ (Some 162, true, false, codes "password", None, role.None, 7)
    ∷ (Some 160, true, false, codes "pin", None, role.None, 7)
    ∷ (Some 161, true, false, codes "cspData", None, role.None, 127)
    ∷ (Some 162, true, true, codes "userHint", None, role.None, 6)
    ∷ (Some 163, true, true, codes "domainHint", None, role.None, 6)
    ∷ (Some 160, true, false, codes "keySpec", None, role.None, 1)
    ∷ (Some 161, true, true, codes "cardName", None, role.None, 6)
    ∷ (Some 162, true, true, codes "readerName", None, role.None, 6)
    ∷ (Some 163, true, true, codes "containerName", None, role.None, 6)
    ∷ (Some 164, true, true, codes "cspName", None, role.None, 6)
    ∷ (Some 160, true, false, codes "logonCred", None, role.None, 130)
    ∷ (Some 161, true, true, codes "supplementalCreds", None, role.None, 128)
    ∷ (Some 160, true, false, codes "packageName", None, role.None, 6)
    ∷ (Some 161, true, false, codes "credBuffer", None, role.None, 6)
    ∷ (Some 160, true, true, codes "mechTypes", None, role.None, 133)
    ∷ (Some 161, true, true, codes "reqFlags", Some kinds.ContextFlag, role.None, 136)
    ∷ (Some 162, true, true, codes "mechToken", None, role.MechanismToken, 134)
    ∷ (Some 163, true, true, codes "mechListMIC", None, role.MechanismListMic, 6)
    ∷ (Some 160, true, true, codes "negState", Some kinds.NegotiationState, role.None, 13)
    ∷ (Some 161, true, true, codes "supportedMech", None, role.None, 9)
    ∷ (Some 162, true, true, codes "responseToken", None, role.MechanismToken, 137)
    ∷ (Some 163, true, true, codes "mechListMIC", None, role.MechanismListMic, 6)
    ∷ (Some 160, true, false, codes "ad-type", Some kinds.AuthorizationDataType, role.None, 1)
    ∷ (Some 161, true, false, codes "ad-data", None, role.AuthorizationData, 139)
    ∷ (Some 160, true, false, codes "ad-checksum", None, role.None, 25)
    ∷ (Some 161, true, true, codes "i-realm", None, role.None, 11)
    ∷ (Some 162, true, true, codes "i-sname", None, role.None, 15)
    ∷ (Some 163, true, false, codes "elements", None, role.None, 141)
    ∷ (Some 160, true, false, codes "condition-count", None, role.None, 1)
    ∷ (Some 161, true, false, codes "elements", None, role.None, 141)
    ∷ (Some 160, true, false, codes "elements", None, role.None, 141)
    ∷ (Some 161, true, true, codes "kdc-verifier", None, role.None, 146)
    ∷ (Some 162, true, true, codes "svc-verifier", None, role.None, 146)
    ∷ (Some 163, true, true, codes "other-verifiers", None, role.None, 144)
    ∷ (Some 160, true, true, codes "identifier", None, role.None, 15)
    ∷ (Some 161, true, true, codes "kvno", None, role.None, 1)
    ∷ (Some 162, true, true, codes "enctype", Some kinds.EncryptionType, role.None, 1)
    ∷ (Some 163, true, false, codes "mac", None, role.None, 25)
    ∷ (Some 160, true, false, codes "ad-checksum", None, role.None, 25)
    ∷ (Some 161, true, true, codes "i-realm", None, role.None, 11)
    ∷ (Some 162, true, true, codes "i-sname", None, role.None, 15)
    ∷ (Some 163, true, false, codes "elements", None, role.None, 22)
    ∷ (Some 160, true, false, codes "condition-count", None, role.None, 1)
    ∷ (Some 161, true, false, codes "elements", None, role.None, 22)
    ∷ (Some 160, true, false, codes "elements", None, role.None, 22)
    ∷ (Some 161, true, true, codes "kdc-verifier", None, role.None, 146)
    ∷ (Some 162, true, true, codes "svc-verifier", None, role.None, 146)
    ∷ (Some 163, true, true, codes "other-verifiers", None, role.None, 144)
    ∷ []

-- what OCTET STRINGs hold
unfoldable pub cases : List (Option ℕ × Option (List ℕ × Option Kind × Role) × ℕ)
cases =
    (Some 1, None, 141)
    ∷ (Some 4, None, 142)
    ∷ (Some 5, None, 143)
    ∷ (Some 8, None, 141)
    ∷ (Some 96, None, 145)
    ∷ (Some 1, None, 65)
    ∷ (Some 2, None, 23)
    ∷ (Some 16, None, 106)
    ∷ (Some 17, Some (codes "dhInfo", None, role.None), 113)
    ∷ (Some 17, Some (codes "encKeyPack", None, role.None), 114)
    ∷ (Some 19, None, 37)
    ∷ (Some 128, None, 38)
    ∷ (Some 161, None, 40)
    ∷ (Some 162, None, 41)
    ∷ (Some 167, None, 39)
    ∷ (None, None, 34)
    ∷ (None, None, 89)
    ∷ (Some 1, None, 125)
    ∷ (Some 2, None, 126)
    ∷ (Some 6, None, 129)
    ∷ (None, None, 65)
    ∷ (None, None, 70)
    ∷ (None, None, 88)
    ∷ (None, None, 65)
    ∷ (None, None, 70)
    ∷ (None, None, 88)
    ∷ (Some 1, None, 22)
    ∷ (Some 4, None, 147)
    ∷ (Some 5, None, 148)
    ∷ (Some 8, None, 22)
    ∷ (Some 96, None, 149)
    ∷ []
