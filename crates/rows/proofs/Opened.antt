-- All that a call is made of, named once: to unfold `a_call` is to unfold whatever its own line names, so that a table whose rows are
-- whole calls computes. Each table is a declaration of its own, since one may take only so many steps.
use Rattle.laws.specs.Lists.{part, splice, same_list}
use Rattle.laws.specs.Tests.{implies, either}
use Rattle.laws.specs.Walks.{all_below, any_below, first_below, sum_below, count_below}
use Rattle.numbers.specs.Numbers.{u16_at, u32_at}
use Rattle.rules.specs.Condition.{met, fulfilled, one_of, all_of, holds_of}
use Rattle.rules.specs.Descriptor.{class_of, has_records}
use Rattle.rules.specs.Group.{sc_at, slots_of, next_of, group_length, some_group}
use Rattle.rules.specs.Life.{life_of, known_life, new_life, can_activate}
use Rattle.rules.specs.Rule.{malformed_at, compact_formed, holds_at, allows_of, compact_grants}
use Rattle.expanded.specs.Object.{objects_from, objects_of as objects_in, every, some, several}
use Rattle.expanded.specs.Condition.{formed_plain, is_template as is_nesting, formed, sc_of, holds_plain, holds}
use Rattle.expanded.specs.Expanded.{is_am, am_after, in_place, goes_on, expanded_formed, opens, opens_one, expanded_grants}
use Rattle.access.specs.Access.{asked_as, well_formed, fits_record, granted_of}
use Rattle.access.specs.Decision.{decision_of}
use Rattle.rules.specs.Value.{good_identifier, whole_records, good_length}
use Rattle.create_data.specs.Data.{is_template, rule_good, both_good, name_good, new_file, df_of, sized_ef, ef_of, file_of, data_of}
use Rattle.create_data.specs.Form.{lacks, has, one_private, one_rule, rule_in, form_in, first_form, df_form, ef_form}
use Rattle.template.specs.Objects.{object_at, taken_at, taken_below, objects_of}
use Rattle.template.specs.Values.{pair_of, record_length_of as length_in_record, number_of, fits_name}
use Rattle.image.specs.Layout.{longest_rule, forms_of, known_version, has_bodies, form_of, start_of, with_start, set_start}
use Rattle.image.specs.Layout.{version_of, count_of, current_df_of, current_ef_of, rec_at, kind_of, descriptor_of, life_cycle_of, identifier_of}
use Rattle.image.specs.Layout.{parent_of, level_of, record_length_of, size_of, field_at, name_of, rule_of, head_bytes, field, record_bytes}
use Rattle.image.specs.Layout.{put_record, with_life, set_life, set_current}
use Rattle.pool.specs.Bodies.{body_of as body_in, start_at, body_at}
use Rattle.pool.specs.Laid.{clear, laid_at, laid}
use Rattle.pool.specs.Gaps.{fits as fits_at, lowest_gap}
use Rattle.pool.specs.Packed.{starts_below, below, packed_start, holds as holds_byte, owner_of, packed_byte, list_below, packed_pool}
use Rattle.pool.specs.Packed.{put_starts, packed_image}
use Rattle.pool.specs.Places.{gap_for}
use Rattle.pool.specs.Records.{has_record}
use Rattle.pool.specs.Wiped.{wipe_if, wipe_below}
use Rattle.sound.specs.Effects.{created, new_body, new_gap, made, filled, clear_if, clear_below, deleted, wiped, fresh_header, fresh}
use Rattle.sound.specs.Kin.{rootb, placed_at, placedb, apart_at, siblings_at, siblingsb, above_at, aboveb, same_name, names_at, namesb}
use Rattle.sound.specs.Kin.{charges_at, chargesb, kinb}
use Rattle.sound.specs.Kinship.{is_child, is_child_named, child_named, free_slot, at_or_beneath, beneath, children_of, files_beneath, total_for}
use Rattle.sound.specs.Kinship.{room_for, terminated_at, terminated_up, named_up, identifier_free, name_free, fits_room}
use Rattle.sound.specs.Own.{zerosb, paddedb, has_start, classedb, measuredb, nameb, ruledb, usedb, ownb}
use Rattle.sound.specs.Sound.{headerb, recordsb, currentb, bodiesb, soundb}
use Rattle.sound.specs.Table.{up, upward, charge_of, charged}
use Rattle.kinship.specs.Search.{is_df_named, df_named}
use Rattle.referred.specs.Padding.{is_ff, is_padding, ends_at, unpadded_end}
use Rattle.referred.specs.Nearest.{first_found, file_up, nearest_of}
use Rattle.referred.specs.Deciding.{named_file_of, named_record_of, is_linear, held_place, referred_place, own_place, place_of, deciding_rule}
use Rattle.judge_target.specs.Steps.{followed}
use Rattle.judge_target.specs.Target.{current_file, allowed_at, decision_at, itself, selected}
use Rattle.apdu.specs.Apdu.{is_terminate, is_known, wants_alone, other_channel, crowded, wants_template, good_parameters, fit_parameters}
use Rattle.apdu.specs.Apdu.{is_binary, is_record, is_read, is_update, is_body, is_old, is_five, asked}
use Rattle.apdu.specs.Apdu.{has_data, is_seven, is_eight, fit_length, on_other_channel}
use Rattle.fcp.specs.Template.{record_bytes_of, rule_tag, size_tag, body_of, template_of, with_c6}
use Rattle.effect.specs.Told.{chosen}
use Rattle.judge_create.specs.Creation.{takes_files}
use Rattle.judge_commands.specs.Commands.{select_word, selecting, may_delete}
use Rattle.judge_bodies.specs.Bodies.{binary, recordwise}
use Rattle.judge.specs.Judge.{life_plan, body_plan, plan_for, judge_for, judge_of}
use Rattle.judge_security.specs.Security.{ef_decision, deletion, life_decision, decision_for, step_j, denial_of}
use Rattle.card.specs.Command.{pool_fits, fits, due_of, reply_of, image_of, pool_of, response_of}

unfoldable pub a_call : Unit {0}
unfolding part splice same_list implies either all_below any_below first_below sum_below count_below u16_at u32_at met fulfilled one_of all_of
    holds_of class_of has_records sc_at slots_of next_of group_length some_group life_of known_life new_life can_activate malformed_at compact_formed
    holds_at allows_of compact_grants objects_from objects_in every some several formed_plain is_nesting formed sc_of holds_plain holds is_am
    am_after in_place goes_on expanded_formed opens opens_one expanded_grants longest_rule forms_of known_version has_bodies form_of well_formed
    fits_record granted_of asked_as is_ff is_padding ends_at unpadded_end first_found file_up nearest_of named_file_of named_record_of is_linear
    held_place referred_place own_place place_of deciding_rule one_rule rule_in form_in rule_good rule_tag good_identifier whole_records good_length is_template both_good name_good
    new_file df_of sized_ef ef_of file_of data_of lacks has one_private first_form df_form ef_form object_at taken_at taken_below objects_of pair_of
    length_in_record number_of fits_name version_of count_of current_df_of current_ef_of rec_at kind_of descriptor_of life_cycle_of identifier_of parent_of
    level_of record_length_of size_of field_at name_of rule_of head_bytes field record_bytes put_record with_life set_life set_current start_of
    with_start set_start body_in start_at body_at clear laid_at laid fits_at lowest_gap starts_below below packed_start holds_byte owner_of packed_byte
    list_below packed_pool put_starts packed_image gap_for wipe_if wipe_below created new_body new_gap made filled clear_if clear_below deleted wiped
    fresh_header fresh rootb placed_at placedb apart_at siblings_at siblingsb above_at aboveb same_name names_at namesb charges_at chargesb kinb
    is_child is_child_named child_named free_slot at_or_beneath beneath children_of files_beneath total_for room_for terminated_at terminated_up
    named_up identifier_free name_free fits_room zerosb paddedb has_start classedb measuredb nameb ruledb usedb ownb headerb recordsb currentb
    bodiesb soundb up upward charge_of charged is_df_named df_named followed current_file allowed_at itself selected is_terminate is_known
    wants_alone other_channel crowded wants_template good_parameters fit_parameters is_binary is_record is_read is_update is_body is_old is_five asked
    has_data is_seven is_eight fit_length on_other_channel takes_files select_word selecting may_delete binary has_record recordwise life_plan
    body_plan plan_for judge_for judge_of record_bytes_of size_tag body_of template_of with_c6 chosen decision_of decision_at ef_decision deletion life_decision
    decision_for step_j denial_of pool_fits fits due_of reply_of image_of pool_of response_of
a_call = tt
