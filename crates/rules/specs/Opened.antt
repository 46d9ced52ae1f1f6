-- Every definition opened at once: under `unfolding every_rule` a call of any of them computes. Assumes nothing.
use Rattle.ground.specs.Choice.{pick, need, all_below}
use Rattle.ground.specs.Lists.{over, put_at}
use Rattle.ground.specs.Signed.{signed, unsigned, is_zero}
use Rattle.ground.specs.Text.{ascii, digit, hexadecimal, decimal}
use Rattle.rules.specs.Calls.{gate, why_unknown, unknown_call, judge_read, read_done, act_read, read_call, is_reset, judge_write, write_done, act_write, write_call, judge_receive, act_receive, receive_call, sending_of, judge_send, packet_from, sent, act_send, send_call, judge_take, act_take, take_call, perform}
use Rattle.rules.specs.Checksum.{bit_step, bit_steps, byte_step}
use Rattle.rules.specs.Memory.{send_part, receive_part, is_free_block}
use Rattle.rules.specs.Notices.{bit_after, interrupt_of, push_aqr, push_nqr, push_nbqr, can_post, empty_interrupt, fill_head, enqueue_token, post, can_post_all, post_all, take_block}
use Rattle.rules.specs.Packet.{metadata_bytes, front_bytes, form, payload_from, metadata_of, packet_of, header_checks, fields_ok, body_checks, well_formed}
use Rattle.rules.specs.Queues.{oldest, removed}
use Rattle.rules.specs.Receipt.{new_bytes_to_go, receipt_of, landed, completes, finished, slot_after, message_notice, ack_notice, fault_notice, receipt_posting, needs_aqr, has_room_for, slot_stored, payload_stored, aqr_stored, counted_by, received_on_board, received}
use Rattle.rules.specs.Registers.{single, mapped, decode, reach, stepped, pcsr1, shown_itself}
use Rattle.rules.specs.Replies.{reply_words}
use Rattle.rules.specs.Sending.{descriptor_at, store_descriptor, message_size_ok, go_rule, started, next_payload, is_last, send_posting, is_ready, first_from, next_sender, none_active, next_bytes, next_header, next_packet, after_packet, mark_stalled}
use Rattle.rules.specs.Slots.{slot_at, store_slot, within24, slot_ok}
use Rattle.rules.specs.Sound.{registers_ok, queues_ok, heads_ok, places_ok, waiting_ok, descriptor_ok, descriptors_ok, sound_ok}
use Rattle.rules.specs.Station.{kind_of, record_packet, call_of, line_of, zero_machine, first_machine, record_line, lines_from, station}
use Rattle.rules.specs.Writes.{judge_send_word, judge_receive_word, judge_register, judge_reached, bits_cleared, number_set, send_stored, receive_stored, clear_descriptors, reset}
use Rattle.std.specs.Prelude.{ℕ}

-- A name to say so; its value means nothing.
unfoldable pub every_rule : ℕ
unfolding pick need all_below over put_at signed unsigned is_zero ascii digit hexadecimal decimal gate why_unknown unknown_call judge_read read_done act_read read_call is_reset judge_write write_done act_write write_call judge_receive act_receive receive_call sending_of judge_send packet_from sent act_send send_call judge_take act_take take_call perform bit_step bit_steps byte_step send_part receive_part is_free_block bit_after interrupt_of push_aqr push_nqr push_nbqr can_post empty_interrupt fill_head enqueue_token post can_post_all post_all take_block metadata_bytes front_bytes form payload_from metadata_of packet_of header_checks fields_ok body_checks well_formed oldest removed new_bytes_to_go receipt_of landed completes finished slot_after message_notice ack_notice fault_notice receipt_posting needs_aqr has_room_for slot_stored payload_stored aqr_stored counted_by received_on_board received single mapped decode reach stepped pcsr1 shown_itself reply_words descriptor_at store_descriptor message_size_ok go_rule started next_payload is_last send_posting is_ready first_from next_sender none_active next_bytes next_header next_packet after_packet mark_stalled slot_at store_slot within24 slot_ok registers_ok queues_ok heads_ok places_ok waiting_ok descriptor_ok descriptors_ok sound_ok kind_of record_packet call_of line_of zero_machine first_machine record_line lines_from station judge_send_word judge_receive_word judge_register judge_reached bits_cleared number_set send_stored receive_stored clear_descriptors reset
every_rule = 0
