use Rattle.krb_negoex.specs.SameLayout.{same_layout}
use Rattle.krb_negoex.specs.GuidLayout.{guid}
use Rattle.krb_negoex.specs.Wire.{one_octet, type_layout, header_layout, extension_layout, checksum_layout}
use Rattle.krb_negoex.proofs.laws.types_of_data.Goals as goal

pub returns-clause-octet : goal.returns-clause-octet
returns-clause-octet c = same_layout one_octet

pub returns-clause-guid : goal.returns-clause-guid
returns-clause-guid c = same_layout guid

pub returns-clause-message_type : goal.returns-clause-message_type
returns-clause-message_type c = same_layout type_layout

pub returns-clause-header : goal.returns-clause-header
returns-clause-header c = same_layout header_layout

pub returns-clause-extension : goal.returns-clause-extension
returns-clause-extension c = same_layout extension_layout

pub returns-clause-checksum : goal.returns-clause-checksum
returns-clause-checksum c = same_layout checksum_layout
