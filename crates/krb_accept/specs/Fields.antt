-- The fields of what was read and opened, without tags and wrappers.
use Rattle.krb_messages.specs.declared.messages.application.ApReqInner.{ApReqInner}
use Rattle.krb_enc_parts.specs.declared.data_types.authenticators.AuthenticatorInner.{AuthenticatorInner}
use Rattle.krb_enc_parts.specs.declared.data_types.ticket_part.EncTicketPartInner.{EncTicketPartInner}
use Rattle.krb_accept_rules.specs.declared.fields.AuthenticatorFields.{AuthenticatorFields}
use Rattle.krb_accept_rules.specs.declared.fields.RequestFields.{RequestFields}
use Rattle.krb_accept_rules.specs.declared.fields.TicketFields.{TicketFields}

-- those of an AP-REQ (RFC 4120, 5.5.1), and of the ticket in it (5.3)
abbrev pub request_of : ApReqInner → RequestFields
request_of v = record {
  version = v.pvno;
  message_type = v.msg_type;
  options = v.ap_options;
  ticket_version = v.ticket.tkt_vno;
  realm = v.ticket.realm;
  server = v.ticket.sname;
  ticket = v.ticket.enc_part;
  authenticator = v.authenticator;
}

-- those of the sealed part of a ticket (5.3)
abbrev pub ticket_of : EncTicketPartInner → TicketFields
ticket_of v = record {
  flags = v.flags;
  key = v.key;
  realm = v.crealm;
  client = v.cname;
  transited = v.transited;
  auth_time = v.auth_time;
  start_time = v.starttime.0;
  end_time = v.endtime;
  addresses = v.caddr.0;
  authorization_data = v.authorization_data.0;
}

-- those of an authenticator (5.5.1)
abbrev pub authenticator_of : AuthenticatorInner → AuthenticatorFields
authenticator_of v = record {
  version = v.authenticator_vno;
  realm = v.crealm;
  client = v.cname;
  checksum = v.cksum.0;
  cusec = v.cusec;
  ctime = v.ctime;
  subkey = v.subkey.0;
  sequence_number = v.seq_number.0;
  authorization_data = v.authorization_data.0;
}
