-- THE WORKED CASES: every ★ block, yard step and text of document 01 as one table, in its order and numbers, and what tickets 2 and 6 of document 02 add to the yard and ticket 8 to texts, each
-- beside the answer that it is to have; and that the definitions give these answers, by computation. Assumes nothing.
use Rattle.std.specs.Prelude.{◌≡◌, refl}
use Rattle.refusal.specs.BigEndian.{big_endian_of, bytes_of as number_bytes}
use Rattle.bencode_scalar.specs.Written.{key_lt, decimal_in}
use Rattle.bencode_scalar.specs.Reading.{digits_val, digits_len, string_of, closed_of, integer_of}
use Rattle.bencode.specs.Value.{encode, count as count_in}
use Rattle.bencode.specs.Decode.{decode, kind_of, key_of, items_of, entries_of, value_from}
use Rattle.bencode_walk.specs.Lookup.{lookup, same_key}
use Rattle.torrent_blocks.specs.Rules.{power_from, sum, file_lengths, lawful}
use Rattle.torrent_blocks.specs.Spans.{joined_from, lengths, end_from, parts_from, sizes as sizes_in}
use Rattle.torrent_blocks.specs.Answers.{block_of, byte_of}
use Rattle.peer_wire.specs.Frames.{sized_of, read_of, message_of as message_by}
use Rattle.torrent_metainfo.specs.Rules.{clean, good_name, elements_of, file_of, lengths_of, info_of, top_of, torrent_of, sized_of as torrent_sized}
use Rattle.bencode_writer.specs.Escaped.{escaped_by}
use Rattle.torrent_lines.specs.Lines.{elements_in, files_in, file_lines, listing_of, slashed}
use Rattle.yard_tables.specs.Counting.{each_from}
use Rattle.yard_tables.specs.Rows.{or_bytes}
use Rattle.yard_tables.specs.Tables.{sizes_fit}
use Rattle.yard_tables.specs.Rounds.{misplaced, round_of}
use Rattle.yard_tables.specs.Frames.{over_top, announced, have_of, bitfield_of, block_of as block_frame, message_of, feed_of}
use Rattle.yard_tables.specs.Seating.{start_of, lowest_free, seated_at, sit_of, at_zero_of, left, leave_of}
use Rattle.yard_tables.specs.Step.{step}
use Rattle.yard_laws.specs.History.{event, phase}
use Rattle.yard_laws.specs.Expected.{lowest_without}
use Rattle.demands.specs.Stars.{stars, four_from, given, asked, lent}

-- every row gives its answer
pub stars-hold : given stars lent lent ≡ asked stars
unfolding given asked stars block_of byte_of lawful power_from sum file_lengths joined_from lengths end_from parts_from sizes_in step start_of sizes_fit lowest_free sit_of seated_at leave_of at_zero_of left feed_of message_of have_of bitfield_of over_top announced each_from or_bytes read_of sized_of message_by big_endian_of number_bytes event phase misplaced round_of block_frame four_from lowest_without decode value_from items_of entries_of kind_of string_of closed_of integer_of key_of digits_val digits_len key_lt count_in listing_of file_lines slashed escaped_by files_in elements_in lookup same_key torrent_of top_of info_of torrent_sized lengths_of file_of elements_of good_name clean decimal_in encode
stars-hold = refl
