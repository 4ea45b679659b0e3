use Rattle.std.proofs.Common.{refl}
use Rattle.std.specs.Fmt.{digits}
use Rattle.pcapfile.specs.Head.{head_of}
use Rattle.pcapfile.specs.Capture.{place_of, record_at, records_from}
use Rattle.linkip.specs.Frames.{behind_tag, by_ether_type, behind_header, by_version}
use Rattle.linkip.specs.Ipv4.{is_short as ipv4_short, is_fragment, ipv4}
use Rattle.linkip.specs.Ipv6.{is_short as ipv6_short, upper_within, by_next, above, ipv6}
use Rattle.porthdr.specs.Udp.{is_short as udp_short, udp}
use Rattle.porthdr.specs.Tcp.{is_short as tcp_short, tcp}
use Rattle.labtop.specs.Rows.{file_head, record_head, ethernet_addresses, ipv4_datagram, ipv4_fragment, ipv4_segment}
use Rattle.labtop.specs.Matching.{match_text, matched_in}
use Rattle.labtop.specs.Scapconf.{fates_from}
use Rattle.labtop.proofs.match_rows.a_match_has_the_numbers_of_records.Goals as goal

pub returns-clause-datagrams : goal.returns-clause-datagrams
unfolding digits head_of place_of record_at records_from behind_tag by_ether_type behind_header by_version ipv4_short is_fragment ipv4 ipv6_short upper_within by_next above ipv6 udp_short udp tcp_short tcp file_head record_head ethernet_addresses ipv4_datagram ipv4_fragment ipv4_segment match_text matched_in fates_from
returns-clause-datagrams c = refl

pub returns-clause-segment : goal.returns-clause-segment
unfolding digits head_of place_of record_at records_from behind_tag by_ether_type behind_header by_version ipv4_short is_fragment ipv4 ipv6_short upper_within by_next above ipv6 udp_short udp tcp_short tcp file_head record_head ethernet_addresses ipv4_datagram ipv4_fragment ipv4_segment match_text matched_in fates_from
returns-clause-segment c = refl
