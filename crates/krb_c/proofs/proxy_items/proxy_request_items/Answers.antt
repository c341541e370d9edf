use Rattle.std.proofs.Common.{inl}
use Rattle.krb_c.proofs.RequestEncodings.{begins_with}
use Rattle.krb_c.proofs.RequestItems.{frame_itemized, frame_there, is_told, kdc_itemized, message_within}
use Rattle.krb_c.proofs.RequestStatuses.{frame_status, kdc_status}
use Rattle.krb_c.proofs.proxy_items.proxy_request_items.Goals as goal

pub message_at-message-requires : goal.message_at-message-requires
message_at-message-requires c = message_within _ _ _ _ (is_told _ _ _ _ _ c.proxy_request-status.ensures c.if-status-ne-DONE.false)

pub first_message-requires : goal.first_message-requires
first_message-requires c =
    let it = is_told _ _ _ _ _ c.proxy_request-status.ensures c.if-status-ne-DONE.false in
    frame_there _ _ _ _ it _ c.message_at-message.ensures c.if-posted-eq-KDC.false

pub returns-then-posted-eq-KDC : goal.returns-then-posted-eq-KDC
returns-then-posted-eq-KDC c =
    let it = is_told _ _ _ _ _ c.proxy_request-status.ensures c.if-status-ne-DONE.false in
    inl (
      it,
      record {
        type_name = _;
        message = _;
        itemized = kdc_itemized _ _ _ _ it _ c.message_at-message.ensures _ c.if-posted-eq-KDC.true c.kdc_type.ensures;
        offset = _;
        answer = c.items.ensures;
        has_items = kdc_status _ _ _ _ it _ c.message_at-message.ensures (λ v is. begins_with 106 _) (λ v is. begins_with 108 _) c.rows_of_messages.ensures.as_req
            c.rows_of_messages.ensures.tgs_req c.if-posted-eq-KDC.true _ c.kdc_type.ensures _ _ _ _ _ c.items.ensures;
      },
    )

pub returns-else-posted-eq-KDC : goal.returns-else-posted-eq-KDC
returns-else-posted-eq-KDC c =
    let it = is_told _ _ _ _ _ c.proxy_request-status.ensures c.if-status-ne-DONE.false in
    inl (
      it,
      record {
        type_name = _;
        message = _;
        itemized = frame_itemized _ _ _ _ it _ c.message_at-message.ensures _ c.if-posted-eq-KDC.false c.first_message.ensures;
        offset = _;
        answer = c.items-else-posted-eq-KDC.ensures;
        has_items = frame_status _ _ _ _ it _ c.message_at-message.ensures c.rows_of_messages.ensures.ap_req c.if-posted-eq-KDC.false _ c.first_message.ensures
            _ _ _ _ _ c.items-else-posted-eq-KDC.ensures;
      },
    )
