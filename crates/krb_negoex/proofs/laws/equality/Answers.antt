use Rattle.std.proofs.Common.{ℕ, List, map, refl}
use Rattle.std.specs.Cmp.Lexicographic.{pointwise_decides}
use Rattle.krb_negoex.specs.contracts.header.MessageType.{the_type}
use Rattle.krb_negoex.specs.Copies.{extension_parts}
use Rattle.krb_negoex.specs.Equality.{numbers_decide, octets_decide, pair_decides, seen_decides, turned_decides, list_decides}
use Rattle.krb_negoex.specs.declared.header.MessageType.{MessageType}
use Rattle.krb_negoex.specs.declared.header.MessageHeader.{MessageHeader}
use Rattle.krb_negoex.specs.declared.nego.Nego.{Nego}
use Rattle.krb_negoex.specs.declared.exchange.Exchange.{Exchange}
use Rattle.krb_negoex.specs.declared.verify.Verify.{Verify}
use Rattle.krb_negoex.proofs.laws.equality.Goals as goal
use denote.Enum.Bare.{same_true, true_same}

pub returns-clause-message_type : goal.returns-clause-message_type
returns-clause-message_type c = λ v w. (same_true the_type tt v w, true_same the_type v w)

pub returns-clause-header : goal.returns-clause-header
returns-clause-header c =
    let id = λ (n : ℕ). n in
    let octets = λ (xs : List ℕ). xs in
    let kind = λ (k : MessageType). k in
    turned_decides (λ (v : MessageHeader). (v.signature, (v.message_type, (v.sequence_num, (v.header_len, (v.message_len, v.conversation_id))))))
    (λ p. record { signature = p.0; message_type = p.1.0; sequence_num = p.1.1.0; header_len = p.1.1.1.0; message_len = p.1.1.1.1.0; conversation_id = p.1.1.1.1.1 })
    (λ v. (v.signature, (v.message_type, (v.sequence_num, (v.header_len, (v.message_len, v.conversation_id))))))
    (λ x. refl)
    (seen_decides (λ (v : MessageHeader). (v.signature, (v.message_type, (v.sequence_num, (v.header_len, (v.message_len, v.conversation_id))))))
    (λ x. (x.0, (x.1.0, (x.1.1.0, (x.1.1.1.0, (x.1.1.1.1.0, x.1.1.1.1.1))))))
    (pair_decides id (λ x. (x.0, (x.1.0, (x.1.1.0, (x.1.1.1.0, x.1.1.1.1))))) numbers_decide
    (pair_decides kind (λ x. (x.0, (x.1.0, (x.1.1.0, x.1.1.1)))) (returns-clause-message_type c)
    (pair_decides id (λ x. (x.0, (x.1.0, x.1.1))) numbers_decide (pair_decides id (λ x. (x.0, x.1)) numbers_decide (pair_decides id octets numbers_decide octets_decide))))))

pub returns-clause-extension : goal.returns-clause-extension
returns-clause-extension c = seen_decides (λ v. (v.extension_type, v.extension_value.items)) (λ x. (x.0, x.1)) (pair_decides (λ x. x) (λ x. x) numbers_decide octets_decide)

pub returns-clause-exchange : goal.returns-clause-exchange
returns-clause-exchange c =
    let octets = λ (xs : List ℕ). xs in
    turned_decides (λ (v : Exchange). (v.header, (v.auth_scheme, v.exchange.items))) (λ p. (p.0, p.1.0, p.1.1)) (λ q. (q.0, (q.1, q.2))) (λ x. refl)
    (seen_decides (λ (v : Exchange). (v.header, (v.auth_scheme, v.exchange.items))) (λ x. (x.0, (x.1.0, x.1.1)))
    (pair_decides (λ (h : MessageHeader). h) (λ x. (x.0, x.1)) (returns-clause-header c) (pair_decides octets octets octets_decide octets_decide)))

pub returns-clause-verify : goal.returns-clause-verify
returns-clause-verify c =
    let id = λ (n : ℕ). n in
    let octets = λ (xs : List ℕ). xs in
    turned_decides (λ (v : Verify). (v.header, (v.auth_scheme, (v.checksum.header_len, (v.checksum.checksum_scheme, (v.checksum.checksum_type, v.checksum.checksum_value.items)))))) (λ p. (p.0, p.1.0, (p.1.1.0, p.1.1.1.0, p.1.1.1.1.0, p.1.1.1.1.1))) (λ q. (q.0, (q.1, (q.2.0, (q.2.1, (q.2.2, q.2.3)))))) (λ x. refl)
    (seen_decides (λ (v : Verify). (v.header, (v.auth_scheme, (v.checksum.header_len, (v.checksum.checksum_scheme, (v.checksum.checksum_type, v.checksum.checksum_value.items)))))) (λ x. (x.0, (x.1.0, (x.1.1.0, (x.1.1.1.0, (x.1.1.1.1.0, x.1.1.1.1.1))))))
    (pair_decides (λ (h : MessageHeader). h) (λ x. (x.0, (x.1.0, (x.1.1.0, (x.1.1.1.0, x.1.1.1.1))))) (returns-clause-header c)
    (pair_decides octets (λ x. (x.0, (x.1.0, (x.1.1.0, x.1.1.1)))) octets_decide
    (pair_decides id (λ x. (x.0, (x.1.0, x.1.1))) numbers_decide (pair_decides id (λ x. (x.0, x.1)) numbers_decide (pair_decides id octets numbers_decide octets_decide))))))

pub returns-clause-nego : goal.returns-clause-nego
returns-clause-nego c =
    let octets = λ (xs : List ℕ). xs in
    let schemes = λ (xs : List (List ℕ)). xs in
    turned_decides (λ (v : Nego). (v.header, (v.random, (v.protocol_version, (v.auth_schemes.items, map extension_parts v.extensions.items))))) (λ p. (p.0, p.1.0, p.1.1.0, p.1.1.1.0, p.1.1.1.1)) (λ q. (q.0, (q.1, (q.2, (q.3, q.4))))) (λ x. refl)
    (seen_decides (λ (v : Nego). (v.header, (v.random, (v.protocol_version, (v.auth_schemes.items, v.extensions.items)))))
    (λ x. (x.0, (x.1.0, (x.1.1.0, (x.1.1.1.0, map extension_parts x.1.1.1.1)))))
    (pair_decides (λ (h : MessageHeader). h) (λ x. (x.0, (x.1.0, (x.1.1.0, map extension_parts x.1.1.1)))) (returns-clause-header c)
    (pair_decides octets (λ x. (x.0, (x.1.0, map extension_parts x.1.1))) octets_decide
    (pair_decides (λ (n : ℕ). n) (λ x. (x.0, map extension_parts x.1)) numbers_decide
    (pair_decides schemes (map extension_parts) (pointwise_decides octets_decide) (list_decides extension_parts (returns-clause-extension c)))))))
