-- Every definition of the rules, opened at once: a proof that computes says `unfolding opened`.
use Rattle.rules.specs.Lists.{up_to, any_of, all_of, keep, first_at, has, inside, meets, same, repeated, repeats, first_repeated, joined, ascends, rises, put, sorted, choose, rows_by, filled, members_below}
use Rattle.rules.specs.File.{bit_at, field, file_dim, file_vertices, file_cells, file_spare, file_cell, cells_in_file, bits_of, length_of, out_of, twice, pad_set, bits_in, byte_of, packed, file_bytes, bit_with, with_field, head_dim, head_vertices, head_cells, head_spare, head_length, put_file}
use Rattle.rules.specs.Book.{dim, count, key, named, held, mentions, keys_held, place, offset, total, row_start, row_of, rows_of, relation_words, offsets, relation, relations, needs, head_right, key_right, most, count_right, frame_right, row_right, relation_right, rows_right}
use Rattle.rules.specs.Broken.{offset_bad, word_bad, index_bad, row_bad, relation_bad, bad_place, index_seen, seen_at, broken_key, broken_place, rows_broken, broken_at, broken_offset, row_broken_at, told}
use Rattle.rules.specs.Made.{met, met_all, built, turned, listed_at, intersected, neighbours, vertex_neighbours, made_from, made}
use Rattle.rules.specs.Calls.{first_broken, loaded, file_rules, file_number, fault_cell, load_rules, load_number, load_cell, load_words, count_after, added, differs, make_rules, make_number, make_words, through, with_key, asked, has_to_make, ask_rules, ask_number, ask_words, answers_of, words_of, pairs_off, list_rules, list_number, list_answers, list_words, count_left, dropped, drop_rules, drop_number, drop_words, row_rules, row_number, row_part, leading, following, found_in, read_in, find_rules, find_number, find_found, find_read, written, write_length, write_rules, write_number, write_bytes, euler_rules, euler_number, alternating, used_vertices, euler_of, held_rules, held_number, held_count, at_front}
use Rattle.rules.specs.Phases.{masked, phased, counted, wrapped, step_count, closure_count, closure_of, turns}
use Rattle.rules.specs.Closures.{count_at, edge_masked, edge_step, edge_byte, face_closure, steps_of, bytes_of, closures_of, lengths_right, close_rules, close_number, accepted_for, closures_after, steps_after, bytes_after}
use Rattle.rules.specs.Boxes.{greater, replaced, furthest, float_zero, coordinate, ends_along, box_over, vertices_of, entity_box, whole_box, coordinate_rules, box_rules, box_number, box_given, whole_rules, whole_number, whole_given, some_box, box_after}
use Rattle.rules.specs.Salvage.{cut_off, equal_to, cell_fault, kept_of, why, kept, dropped_of, pairs_of, dropped_pairs, dropped_count, saved_head, saved, saved_length, spare_was, pad_was, length_was, salvage_rules, salvage_number, salvage_given, salvage_bytes, salvage_list}
use Rattle.rules.specs.Truth.{mesh_of, entities, number, entity, incident, true_row, true_rows, used_in, true_euler, first_word, count_word, true_at, true_book}
use Rattle.rules.specs.Sheet.{edges_of, cells_at, ends_at, unused, branched, unmatched, across_at, across, at_rim, rim_edges_of, rim_vertices_of, rim_number, rim_mesh, rim_file, rim_length_of, sheet_rules, sheet_answer, sheet_number, sheet_given, sheet_for, sheet_across, sheet_bytes, sheet_vertices, sheet_edges}
use Rattle.rules.specs.Plain.{mesh_in, plain_rules, plain_number, plain_yes}
use Rattle.rules.specs.Sequence.{after, after_all, asks_of}
use Rattle.rules.specs.SameCells.{among, same_sets}

unfoldable pub opened : Unit {0}
unfolding up_to any_of all_of keep first_at has inside meets same repeated repeats first_repeated joined ascends rises put sorted choose rows_by filled members_below bit_at field file_dim file_vertices file_cells file_spare file_cell cells_in_file bits_of length_of out_of twice pad_set bits_in byte_of packed file_bytes bit_with with_field head_dim head_vertices head_cells head_spare head_length put_file dim count key named held mentions keys_held place offset total row_start row_of rows_of relation_words offsets relation relations needs head_right key_right most count_right frame_right row_right relation_right rows_right offset_bad word_bad index_bad row_bad relation_bad bad_place index_seen seen_at broken_key broken_place rows_broken broken_at broken_offset row_broken_at told met met_all built turned listed_at intersected neighbours vertex_neighbours made_from made first_broken loaded file_rules file_number fault_cell load_rules load_number load_cell load_words count_after added differs make_rules make_number make_words through with_key asked has_to_make ask_rules ask_number ask_words answers_of words_of pairs_off list_rules list_number list_answers list_words count_left dropped drop_rules drop_number drop_words row_rules row_number row_part leading following found_in read_in find_rules find_number find_found find_read written write_length write_rules write_number write_bytes euler_rules euler_number alternating used_vertices euler_of held_rules held_number held_count at_front masked phased counted wrapped step_count closure_count closure_of turns count_at edge_masked edge_step edge_byte face_closure steps_of bytes_of closures_of lengths_right close_rules close_number accepted_for closures_after steps_after bytes_after greater replaced furthest float_zero coordinate ends_along box_over vertices_of entity_box whole_box coordinate_rules box_rules box_number box_given whole_rules whole_number whole_given some_box box_after cut_off equal_to cell_fault kept_of why kept dropped_of pairs_of dropped_pairs dropped_count saved_head saved saved_length spare_was pad_was length_was salvage_rules salvage_number salvage_given salvage_bytes salvage_list mesh_of entities number entity incident true_row true_rows used_in true_euler first_word count_word true_at true_book edges_of cells_at ends_at unused branched unmatched across_at across at_rim rim_edges_of rim_vertices_of rim_number rim_mesh rim_file rim_length_of sheet_rules sheet_answer sheet_number sheet_given sheet_for sheet_across sheet_bytes sheet_vertices sheet_edges mesh_in plain_rules plain_number plain_yes after after_all asks_of among same_sets
opened = tt
