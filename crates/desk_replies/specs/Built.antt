-- The members of an object that is put together.
use Rattle.serde_json.specs.Data.{Members}
use Rattle.serde_json.specs.View.{members_view}
use Rattle.desk_replies.specs.declared.objects.Object.{Object}

abbrev pub members : Object → Members
members object = members_view object.map.entries
