-- What requests ask for (RFC 4120, 5.4.1; RFC 3244, 2).
use Rattle.std.specs.Prelude.{Some, None}
use Rattle.krb_messages.specs.declared.messages.requests.KdcReq.{KdcReq}
use Rattle.krb_messages.specs.declared.messages.application.ApReqInner.{ApReqInner}
use Rattle.krb_kdc_proxy.specs.declared.asked.Service.TheVariants as service
use Rattle.krb_kdc_proxy.specs.declared.asked.Asked.{Asked}

-- a request to a KDC: its body's realm and names
abbrev pub kdc_asked : KdcReq → Asked
kdc_asked v = record { service = service.Kdc; realm = v.req_body.realm; client = v.req_body.cname.0; server = v.req_body.sname.0 }

-- a change of a password: the realm and the name of the server that its ticket is for
abbrev pub change_asked : ApReqInner → Asked
change_asked v = record { service = service.PasswordChange; realm = v.ticket.realm; client = None; server = Some v.ticket.sname }
