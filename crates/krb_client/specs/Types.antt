-- The types of the messages of an exchange, by their encodings (RFC 4120, 5.4 to 5.9).
use Rattle.std.specs.Prelude.{List}
use Rattle.krb_der_core.specs.declared.der.DerEncode.{Ghosts as EncodingOf}
use Rattle.krb_enc_parts.specs.declared.data_types.authenticators.AuthenticatorInner.{AuthenticatorInner}
use Rattle.krb_messages.specs.declared.messages.application.ApReqInner.{ApReqInner}
use Rattle.krb_messages.specs.declared.messages.errors.KrbErrorInner.{KrbErrorInner}
use Rattle.krb_messages.specs.declared.messages.replies.EncKdcRepPart.{EncKdcRepPart}
use Rattle.krb_messages.specs.declared.messages.replies.KdcRep.{KdcRep}
use Rattle.krb_messages.specs.declared.messages.requests.KdcReq.{KdcReq}
use Rattle.krb_messages.specs.declared.messages.requests.KdcReqBody.{KdcReqBody}
use Rattle.krb_types.specs.declared.data_types.encryption.EncryptedData.{EncryptedData}
use Rattle.krb_types.specs.declared.data_types.etype_info.EtypeInfo2Entry.{EtypeInfo2Entry}
use Rattle.krb_types.specs.declared.data_types.pre_authentication.PaData.{PaData}
use Rattle.krb_types.specs.declared.data_types.pre_authentication.PaEncTsEnc.{PaEncTsEnc}

-- of an exchange for a first ticket (3.1)
pub record InitialTypes : Type 1 where
  pub as_req : EncodingOf KdcReq
  pub as_rep : EncodingOf KdcRep
  pub part : EncodingOf EncKdcRepPart
  pub other_part : EncodingOf EncKdcRepPart
  pub krb_error : EncodingOf KrbErrorInner
  pub stamps : EncodingOf PaEncTsEnc
  pub encrypted : EncodingOf EncryptedData
  pub lists : EncodingOf (List PaData)
  pub infos : EncodingOf (List EtypeInfo2Entry)

-- of an exchange for a further ticket (3.3)
pub record ServiceTypes : Type 1 where
  pub tgs_req : EncodingOf KdcReq
  pub bodies : EncodingOf KdcReqBody
  pub applications : EncodingOf ApReqInner
  pub authenticators : EncodingOf AuthenticatorInner
  pub tgs_rep : EncodingOf KdcRep
  pub part : EncodingOf EncKdcRepPart
  pub krb_error : EncodingOf KrbErrorInner
