-- The lines on both sides of what decides compute.
use mathlib.Core.Path.{refl}
use Rattle.laws.specs.Lists.{part}
use Rattle.laws.specs.Walks.{all_below, first_below}
use Rattle.numbers.specs.Numbers.{u16_at, u32_at}
use Rattle.image.specs.Layout.{rec_at, kind_of, descriptor_of, form_of, identifier_of, parent_of, level_of, record_length_of, size_of, start_of, field_at, name_of}
use Rattle.pool.specs.Records.{has_record}
use Rattle.sound.specs.Table.{up}
use Rattle.sound.specs.Kinship.{is_child, is_child_named, child_named}
use Rattle.expanded.specs.Object.{objects_from, objects_of, every, several}
use Rattle.expanded.specs.Condition.{formed_plain, is_template, formed}
use Rattle.expanded.specs.Expanded.{is_am, in_place, goes_on, expanded_formed}
use Rattle.referred.specs.Padding.{is_ff, is_padding, ends_at, unpadded_end}
use Rattle.referred.specs.Nearest.{first_found, file_up, nearest_of}
use Rattle.referred.specs.Deciding.{named_file_of, named_record_of, is_linear, held_place, referred_place, own_place, place_of, deciding_rule}
use Rattle.referred.specs.Lines.{EndsTold, NamesTold, PlacesTold}
use Rattle.referred.proofs.Ticket.{nearest-counts}

pub ends-told : EndsTold
unfolding all_below first_below objects_from objects_of every several formed_plain is_template formed is_am in_place goes_on expanded_formed
    is_ff is_padding ends_at unpadded_end
ends-told = refl

pub names-told : NamesTold
unfolding first_below part u16_at u32_at rec_at kind_of form_of identifier_of parent_of level_of size_of field_at name_of up is_child is_child_named child_named
    first_found file_up nearest_of named_file_of
names-told = (
  record { form = refl; found = ((nearest-counts 5 _ _ _).0 2).0 refl },
  record { form = refl; found = ((nearest-counts 5 _ _ _).0 4).0 refl },
  record { form = refl; found = ((nearest-counts 5 _ _ _).0 2).0 refl },
)

pub places_told : PlacesTold
unfolding all_below first_below objects_from objects_of every several formed_plain is_template formed is_am in_place goes_on expanded_formed
    is_ff is_padding ends_at unpadded_end part u16_at u32_at rec_at kind_of descriptor_of form_of identifier_of parent_of level_of record_length_of size_of
    start_of field_at name_of has_record up is_child is_child_named child_named first_found file_up nearest_of named_file_of named_record_of is_linear
    held_place referred_place own_place place_of deciding_rule
places_told = (refl, refl, refl, refl)
